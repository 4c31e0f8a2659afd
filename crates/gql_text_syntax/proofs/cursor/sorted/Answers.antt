use Rattle.gql_text_syntax.proofs.TokenSorts.{no_end_sort, name_fits, whole_fits, is_within_sound}
use Rattle.gql_text_syntax.proofs.cursor.sorted.Goals as goal

pub returns-clause-fits : goal.returns-clause-fits
returns-clause-fits c = record {
  name = λ h. name_fits _ _ c.requires (rw (← c.sort_of.ensures) h);
  whole = λ h. (whole_fits _ _ c.requires (rw (← c.sort_of.ensures) h)).0;
  within = λ h. is_within_sound _ (whole_fits _ _ c.requires (rw (← c.sort_of.ensures) h)).1;
}

pub returns-clause-proper : goal.returns-clause-proper
returns-clause-proper c = rw c.sort_of.ensures (no_end_sort c.args.token.now.kind c.args.token.now.text.now)
