-- Names that no type has yet.
use Rattle.std.proofs.Common.{◌≡◌, Bool, true, false, ◌||◌, List, [], ◌∷◌, ◌++◌, map, refl, ap, sym, subst, ◌∙◌, Some, None}
use Rattle.std.specs.Prelude.{codes}
use Rattle.std.specs.declared.option.Option.{Option}
use Rattle.std.specs.declared.result.Result.{Result}
use Rattle.std.specs.declared.result.Result.TheVariants.{Ok, Err}
use Rattle.std.specs.Result.{OnOk}
use Rattle.std.specs.declared.cmp.Ordering.{Ordering}
use Rattle.std.specs.declared.cmp.Ordering.TheVariants.{Less, Equal, Greater}
use Rattle.std.specs.List.{AllByRecursion, IsDistinct}
use Rattle.std.specs.Map.{keys_of}
use Rattle.std.specs.Str.{bytes_eq}
use Rattle.std.specs.BTreeMap.{insert_entry}
use Rattle.std.specs.Ordering.{match_ordering, is_eq}
use Rattle.std.specs.Cmp.Lexicographic.{nat_list_eq_equiv}
use Rattle.std.proofs.lemmas.Map.Keys.{IsDistinct-head, IsDistinct-tail, IsDistinct-push}
use Rattle.std.proofs.lemmas.Map.Text.{is_eq-slice_cmp}
use Rattle.std.proofs.lemmas.Slice.Eq.{bytes_eq-Decides}
use Rattle.gql_registry_meta.specs.Parts.{Text, text_cmp, is_among, name_of}
use Rattle.gql_registry.specs.Registry.{Contents}
use Rattle.gql_registry.specs.Additions.{made, all_made, system_steps}
use Rattle.gql_check_rules.specs.Schema.{is_system_scalar}
use Rattle.gql_check_rules.specs.Tests.{fault_if, first_in, or_else}
use Rattle.gql_check_rules.specs.Rules.{name_fault, first_fault}
use Rattle.gql_dynamic_types.specs.Types.{with_last}
use Rattle.gql_dynamic.specs.SchemaTypes.{TypeParts, type_name, type_meta}
use Rattle.gql_check_code.specs.Definitions.{SchemaParts, definition, each_of, schema}
use Rattle.gql_check.specs.Recorded.{Recorded, types_in, roots_alone, type_step}
use Rattle.gql_check.specs.Names.{HasOwnNames, HasDifferentNames, HasNoneOf}
use Rattle.gql_check.proofs.RegistrySteps.{name_of-type_meta}

-- ---- names of entries

swapped : (a b c : Bool) → a || (b || c) ≡ b || (a || c)
swapped true true c = refl
swapped true false c = refl
swapped false b c = refl

twice : (a b c : Bool) → b ≡ a → b || c ≡ a || (b || c)
twice true true c e = refl
twice true false c e = cc e
twice false b c e = refl

module _ {X : Type 0} (name t : Text) where
  -- after one more, its name is among the names too
  pub among_with : (es : List (Text × X)) (v : X) → is_among name (keys_of (insert_entry text_cmp es t v)) ≡ is_among name (t ∷ keys_of es)
  among_with [] v = refl
  among_with (e ∷ es) v = by (text_cmp t e.0) refl (among_with es v)
    where
      by : (o : Ordering) → text_cmp t e.0 ≡ o → is_among name (keys_of (insert_entry text_cmp es t v)) ≡ is_among name (t ∷ keys_of es)
          → is_among name (keys_of (match_ordering o ((t, v) ∷ e ∷ es) ((e.0, v) ∷ es) (e ∷ insert_entry text_cmp es t v))) ≡ is_among name (t ∷ e.0 ∷ keys_of es)
      by Less p rest = refl
      by Equal p rest =
          let same : bytes_eq t e.0 ≡ true = sym (is_eq-slice_cmp t e.0) ∙ ap is_eq p in
          twice (bytes_eq name t) (bytes_eq name e.0) (is_among name (keys_of es)) (ap (bytes_eq name) (sym ((bytes_eq-Decides t e.0).0 same)))
      by Greater p rest = ap (λ b. bytes_eq name e.0 || b) rest ∙ swapped (bytes_eq name e.0) (bytes_eq name t) (is_among name (keys_of es))

-- ---- free names

-- each of the names is none of the others, and no earlier one
abbrev pub AreFree : List Text → List Text → Type 0
AreFree [] others = Unit {0}
AreFree (name ∷ names) others = (is_among name others ≡ false) × AreFree names (name ∷ others)

-- the order of the others does not count
pub free_alike : (names ks ls : List Text) → ((name : Text) → is_among name ls ≡ is_among name ks) → AreFree names ks → AreFree names ls
free_alike [] ks ls same h = tt
free_alike (n ∷ ns) ks ls same h = (same n ∙ h.0, free_alike ns (n ∷ ks) (n ∷ ls) (λ m. ap (λ b. bytes_eq m n || b) (same m)) h.1)

none_more : (names : List Text) (k : Text) (others : List Text) → AllByRecursion (λ n. bytes_eq k n ≡ false) names
    → AllByRecursion (λ n. is_among n others ≡ false) names → AllByRecursion (λ n. is_among n (k ∷ others) ≡ false) names
none_more [] k others apart h = tt
none_more (n ∷ ns) k others apart h = (ap (λ b. b || is_among n others) (nat_list_eq_equiv.symm n k ∙ apart.0) ∙ h.0, none_more ns k others apart.1 h.1)

-- distinct names that are none of the others are free
are_free : (names others : List Text) → IsDistinct bytes_eq names → AllByRecursion (λ n. is_among n others ≡ false) names → AreFree names others
are_free [] others distinct h = tt
are_free (n ∷ ns) others distinct h = (
  h.0,
  are_free ns (n ∷ others) (IsDistinct-tail bytes_eq n ns distinct) (none_more ns n others (IsDistinct-head bytes_eq n ns distinct) h.1),
)

types_named : (es : List (Text × TypeParts)) → map type_name (map (λ entry. entry.1) es) ≡ map (λ entry. type_name entry.1) es
types_named [] = refl
types_named (e ∷ es) = ap (λ l. type_name e.1 ∷ l) (types_named es)

-- the names of the types are free where they are none of the others
pub free_names : (parts : SchemaParts) (others : List Text) → HasOwnNames parts → HasDifferentNames parts → HasNoneOf others parts → AreFree (map type_name (types_in parts)) others
free_names parts others own different none =
    subst (λ names. AreFree names others) (sym (types_named parts.types ∙ own)) (are_free (keys_of parts.types) others different none)

none_of_none : (names : List Text) → AllByRecursion (λ n. is_among n [] ≡ false) names
none_of_none [] = tt
none_of_none (n ∷ ns) = (refl, none_of_none ns)

-- and they are free by themselves
pub names_apart : (parts : SchemaParts) → HasOwnNames parts → HasDifferentNames parts → AreFree (map type_name (types_in parts)) []
names_apart parts own different = free_names parts [] own different (none_of_none (keys_of parts.types))

keys_last : (es : List (Text × TypeParts)) (n : Text) (type : TypeParts) → keys_of (with_last es n type) ≡ keys_of es ++ n ∷ []
keys_last [] n type = refl
keys_last (e ∷ es) n type = ap (λ l. e.0 ∷ l) (keys_last es n type)

-- a type of a new name
pub names_more : (before after : SchemaParts) (n : Text) (type : TypeParts) → after.types ≡ with_last before.types n type
    → HasDifferentNames before → is_among n (keys_of before.types) ≡ false → HasDifferentNames after
names_more before after n type e different new =
    subst (λ names. IsDistinct bytes_eq names) (sym (ap (λ (types : List (Text × TypeParts)). keys_of types) e ∙ keys_last before.types n type))
    (IsDistinct-push nat_list_eq_equiv (keys_of before.types) n different new)

-- no types have no names
pub no_names : (parts : SchemaParts) → parts.types ≡ [] → HasDifferentNames parts
unfolding IsDistinct
no_names parts e = subst (λ (types : List (Text × TypeParts)). IsDistinct bytes_eq (keys_of types)) (sym e) tt

-- of two facts that hold after Ok
pub on_ok_both : {T E P Q R : Type 0} (r : Result T E) → (P → Q → R) → OnOk r P → OnOk r Q → OnOk r R
on_ok_both (Ok x) f p q = f p q
on_ok_both (Err e) f p q = tt

-- the names that are left stay free after a type more
pub free_after : (names : List Text) (type : TypeParts) (before after : Contents) → after ≡ made before (type_step type) → AreFree (type_name type ∷ names) (keys_of before.types) → AreFree names (keys_of after.types)
free_after names type before after e free =
    free_alike names (type_name type ∷ keys_of before.types) (keys_of after.types)
    (λ name. ap (λ (contents : Contents). is_among name (keys_of contents.types)) e
    ∙ among_with name (name_of (type_meta type)) before.types (type_meta type)
    ∙ ap (λ own. is_among name (own ∷ keys_of before.types)) (name_of-type_meta type))
    free.1

-- ---- system scalars

or_else-none : {F : Type 0} (a b : Option F) → or_else a b ≡ None → (a ≡ None) × (b ≡ None)
or_else-none None b e = (refl, e)
or_else-none (Some x) b e = absurd cc

fault_if-none : {F : Type 0} (b : Bool) (f : F) → fault_if b f ≡ None → b ≡ false
fault_if-none true f e = absurd cc
fault_if-none false f e = refl

five : (i f s b d : Bool) → i || (f || (s || (b || (d || false)))) ≡ false → b || (f || (d || (i || (s || false)))) ≡ false
five true f s b d e = cc e
five false true s b d e = cc e
five false false true b d e = cc e
five false false false true d e = cc e
five false false false false true e = cc e
five false false false false false e = refl

-- the names of the types that every schema has
pub system_names : (recorded : Recorded) (name : Text) → is_system_scalar name ≡ false → is_among name (keys_of (all_made (roots_alone recorded) system_steps).types) ≡ false
unfolding is_system_scalar all_made
system_names recorded name e = five (bytes_eq name (codes "Int")) (bytes_eq name (codes "Float")) (bytes_eq name (codes "String")) (bytes_eq name (codes "Boolean")) (bytes_eq name (codes "ID")) e

no_scalars : (recorded : Recorded) (types : List (Text × TypeParts)) → first_in name_fault (each_of definition types) ≡ None
    → AllByRecursion (λ name. is_among name (keys_of (all_made (roots_alone recorded) system_steps).types) ≡ false) (keys_of types)
no_scalars recorded [] e = tt
no_scalars recorded (t ∷ ts) e =
    let parts = or_else-none (name_fault (t.0, definition t.1)) (first_in name_fault (each_of definition ts)) e in
    (system_names recorded t.0 (fault_if-none (is_system_scalar t.0) _ parts.0), no_scalars recorded ts parts.1)

-- no type of a schema that keeps the rules has the name of one of them
pub none_of_system : (recorded : Recorded) (parts : SchemaParts) → first_fault (schema parts) ≡ None → HasNoneOf (keys_of (all_made (roots_alone recorded) system_steps).types) parts
none_of_system recorded parts e = no_scalars recorded parts.types (or_else-none (first_in name_fault (each_of definition parts.types)) _ e).0
