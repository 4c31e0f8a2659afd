-- The test of plain data decides equality. All of this is proved, and stands here since the clauses of the comparing traits cite it.
use Rattle.std.proofs.Common.{◌≡◌, Bool, true, false, ap, refl}
use Rattle.std.specs.Prelude.{◌&&◌}
use Rattle.std.specs.Bool.{Decides}
use Rattle.std.specs.Str.{bytes_eq}
use Rattle.std.specs.Cmp.{IsEquivalence, decided, signed_Decides}
use Rattle.std.specs.Cmp.Lexicographic.{bytes_decides}
use Rattle.gql_text_values.specs.SameValue.{Value, Values, Entries, null, number, text, boolean, enum, list, object, no_value, value, no_entry, entry, same_bool, same, same_values, same_entries}

-- the test of two truth values decides equality
same_bool_decides : (a b : Bool) → Decides (same_bool a b) (a ≡ b)
same_bool_decides true true = ((λ t. refl), (λ e. refl))
same_bool_decides false false = ((λ t. refl), (λ e. refl))
same_bool_decides _ _ = ((λ t. absurd cc), (λ e. absurd cc))

-- both hold where the test of both holds
both : (a b : Bool) → (a && b) ≡ true → (a ≡ true) × (b ≡ true)
both true b e = (refl, e)
both false b e = absurd cc

-- and the other way round
and_true : (a b : Bool) → a ≡ true → b ≡ true → (a && b) ≡ true
and_true true b e f = f
and_true false b e f = absurd cc

-- the test decides equality
mutual
  pub same_decides : (a b : Value) → Decides (same a b) (a ≡ b)
  same_decides null null = ((λ t. refl), (λ e. refl))
  same_decides (number a) (number b) = ((λ t. ap number ((signed_Decides a b).0 t)), (λ e. (signed_Decides a b).1 cc))
  same_decides (text a) (text b) = ((λ t. ap text ((bytes_decides a b).0 t)), (λ e. (bytes_decides a b).1 cc))
  same_decides (boolean a) (boolean b) = ((λ t. ap boolean ((same_bool_decides a b).0 t)), (λ e. (same_bool_decides a b).1 cc))
  same_decides (enum a) (enum b) = ((λ t. ap enum ((bytes_decides a b).0 t)), (λ e. (bytes_decides a b).1 cc))
  same_decides (list a) (list b) = ((λ t. ap list ((same_values_decides a b).0 t)), (λ e. (same_values_decides a b).1 cc))
  same_decides (object a) (object b) = ((λ t. ap object ((same_entries_decides a b).0 t)), (λ e. (same_entries_decides a b).1 cc))
  same_decides _ _ = ((λ t. absurd cc), (λ e. absurd cc))

  pub same_values_decides : (a b : Values) → Decides (same_values a b) (a ≡ b)
  same_values_decides no_value no_value = ((λ t. refl), (λ e. refl))
  same_values_decides (value a more) (value b others) =
      let first = same_decides a b in
      let rest = same_values_decides more others in (
        (λ t. let p = both (same a b) (same_values more others) t in let h = first.0 p.0 in let k = rest.0 p.1 in cc),
        (λ e. and_true (same a b) (same_values more others) (first.1 cc) (rest.1 cc)),
      )
  same_values_decides _ _ = ((λ t. absurd cc), (λ e. absurd cc))

  pub same_entries_decides : (a b : Entries) → Decides (same_entries a b) (a ≡ b)
  same_entries_decides no_entry no_entry = ((λ t. refl), (λ e. refl))
  same_entries_decides (entry k a more) (entry l b others) =
      let key = bytes_decides k l in
      let first = same_decides a b in
      let rest = same_entries_decides more others in (
        (λ t. let p = both (bytes_eq k l && same a b) (same_entries more others) t in
            let q = both (bytes_eq k l) (same a b) p.0 in
            let g = key.0 q.0 in let h = first.0 q.1 in let i = rest.0 p.1 in cc),
        (λ e. and_true (bytes_eq k l && same a b) (same_entries more others) (and_true (bytes_eq k l) (same a b) (key.1 cc) (first.1 cc)) (rest.1 cc)),
      )
  same_entries_decides _ _ = ((λ t. absurd cc), (λ e. absurd cc))

-- so it is an equivalence
pub same_equivalence : IsEquivalence same
same_equivalence = decided same same_decides
