use Rattle.std.proofs.Common.{rules}
use Rattle.gql_text_syntax.specs.declared.syntax.TypeTree.TheFolds.{the_lemmas as trees}
use Rattle.gql_text_values.specs.declared.type_ref.TypeRef.TheFolds.{the_lemmas as references}
use Rattle.gql_text_syntax.proofs.syntax.TypeTree.+type_name.Goals as goal

pub returns-in-Named : goal.returns-in-Named
returns-in-Named t c = search (rules, trees, references)

pub returns-in-NonNull : goal.returns-in-NonNull
returns-in-NonNull t c = search (rules, trees, references)

pub returns-in-List : goal.returns-in-List
returns-in-List t c = search (rules, trees, references)
