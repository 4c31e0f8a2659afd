-- Values that stand under their own names.
use Rattle.std.proofs.Common.{◌≡◌, Bool, true, false, cond, List, [], ◌∷◌, refl, ap, ◌∙◌, sym, Some, string_bytes, subst}
use Rattle.std.specs.declared.cmp.Ordering.{Ordering}
use Rattle.std.specs.declared.cmp.Ordering.TheVariants.{Less, Equal, Greater}
use Rattle.std.specs.Map.{lookup, set_value}
use Rattle.std.specs.Str.{bytes_eq}
use Rattle.std.specs.BTreeMap.{insert_entry}
use Rattle.std.specs.Ordering.{match_ordering, is_eq}
use Rattle.std.specs.Result.{OnOk, OnErr}
use Rattle.std.specs.declared.result.Result.{Result}
use Rattle.std.specs.declared.result.Result.TheVariants.{Ok, Err}
use Rattle.std.specs.declared.string.String.{String}
use Rattle.std.specs.declared.alloc.Global.{Global}
use Rattle.std.proofs.lemmas.Slice.Eq.{bytes_eq-Decides}
use Rattle.gql_registry_meta.specs.Parts.{Text, at_text, text_cmp, Meta, name_of, Directive}
use Rattle.gql_registry_meta.specs.Views.{entries_of, meta_of}
use Rattle.gql_registry_meta.specs.declared.meta_type.MetaType.{MetaType}
use Rattle.gql_registry_meta.proofs.Entries.{found_at, written}
use Rattle.gql_registry.specs.Maps.{StandUnderOwnNames, HaveOwnNames, DirectivesHaveOwnNames}
use Rattle.gql_registry.specs.Registry.{with_type, with_directive}
use Rattle.gql_registry.proofs.Changes.{same_text}

module _ {X : Type 0} (name : X → Text) (t : Text) where
  -- one more, under its own name
  pub own_with_entry : (es : List (Text × X)) (v : X) → name v ≡ t → StandUnderOwnNames name es → StandUnderOwnNames name (insert_entry text_cmp es t v)
  own_with_entry [] v own h = (own, tt)
  own_with_entry (e ∷ es) v own h = by (text_cmp t e.0) refl (own_with_entry es v own h.1)
    where
      by : (o : Ordering) → text_cmp t e.0 ≡ o → StandUnderOwnNames name (insert_entry text_cmp es t v)
          → StandUnderOwnNames name (match_ordering o ((t, v) ∷ e ∷ es) ((e.0, v) ∷ es) (e ∷ insert_entry text_cmp es t v))
      by Less p rest = (own, h)
      by Equal p rest = (own ∙ (bytes_eq-Decides t e.0).0 (same_text t e.0 Equal p), h.1)
      by Greater p rest = (h.0, rest)

  own-cond : (b : Bool) (e : Text × X) (es : List (Text × X)) (v : X) → bytes_eq t e.0 ≡ b → name v ≡ t → StandUnderOwnNames name (e ∷ es)
      → StandUnderOwnNames name (set_value (bytes_eq t) es v) → StandUnderOwnNames name (cond b ((e.0, v) ∷ es) (e ∷ set_value (bytes_eq t) es v))
  own-cond true e es v p own h rest = (own ∙ (bytes_eq-Decides t e.0).0 p, h.1)
  own-cond false e es v p own h rest = (h.0, rest)

  -- another value of that name in its place
  pub own_with_value : (es : List (Text × X)) (v : X) → name v ≡ t → StandUnderOwnNames name es → StandUnderOwnNames name (set_value (bytes_eq t) es v)
  own_with_value [] v own h = tt
  own_with_value (e ∷ es) v own h = own-cond (bytes_eq t e.0) e es v refl own h (own_with_value es v own h.1)

  named-cond : (b : Bool) (e : Text × X) (es : List (Text × X)) (v : X) → bytes_eq t e.0 ≡ b → name e.1 ≡ e.0 → (at_text t es ≡ Some v → name v ≡ t)
      → cond b (Some e.1) (at_text t es) ≡ Some v → name v ≡ t
  named-cond true e es v p own rest some = ap name (sym (some_inner e.1 v some)) ∙ own ∙ sym ((bytes_eq-Decides t e.0).0 p)
    where
      some_inner : (a b : X) → Some a ≡ Some b → a ≡ b
      some_inner a b q = cc
  named-cond false e es v p own rest some = rest some

  -- what stands under a text has it for its name
  pub own_at : (es : List (Text × X)) (v : X) → at_text t es ≡ Some v → StandUnderOwnNames name es → name v ≡ t
  own_at [] v some h = cc
  own_at (e ∷ es) v some h = named-cond (bytes_eq t e.0) e es v refl h.0 (λ q. own_at es v q h.1) some

-- ---- types and directives

-- the types with one more
pub types_with : (types : List (Text × Meta)) (type : Meta) → HaveOwnNames types → HaveOwnNames (with_type types type)
types_with types type own = own_with_entry name_of (name_of type) types type refl own

-- the directives with one more
pub directives_with : (directives : List (Text × Directive)) (directive : Directive) → DirectivesHaveOwnNames directives → DirectivesHaveOwnNames (with_directive directives directive)
directives_with directives directive own = own_with_entry (λ (d : Directive). d.name) directive.name directives directive refl own

-- the types after a call that puts one more, or leaves them as they are
pub types_after : {T E : Type 0} (r : Result T E) (types new : List (Text × Meta)) (type : Meta) → OnOk r (new ≡ with_type types type) → OnErr r (new ≡ types) → HaveOwnNames types → HaveOwnNames new
types_after (Ok x) types new type put same own = subst HaveOwnNames (sym put) (types_with types type own)
types_after (Err e) types new type put same own = subst HaveOwnNames (sym same) own

-- the directives after such a call
pub directives_after : {T E : Type 0} (r : Result T E) (directives new : List (Text × Directive)) (directive : Directive) → OnOk r (new ≡ with_directive directives directive) → OnErr r (new ≡ directives)
    → DirectivesHaveOwnNames directives → DirectivesHaveOwnNames new
directives_after (Ok x) directives new directive put same own = subst DirectivesHaveOwnNames (sym put) (directives_with directives directive own)
directives_after (Err e) directives new directive put same own = subst DirectivesHaveOwnNames (sym same) own

-- the types after another type of its name was written over the one that was found
pub types_written : {x g : _} (t : Text) (es new : List (String Global × MetaType x g)) (v w : MetaType x g) → Some v ≡ lookup (λ k. is_eq (text_cmp t (string_bytes k))) es
    → new ≡ set_value (λ k. is_eq (text_cmp t (string_bytes k))) es w → name_of (meta_of w) ≡ name_of (meta_of v) → HaveOwnNames (entries_of meta_of es) → HaveOwnNames (entries_of meta_of new)
types_written t es new v w found n same own =
    subst HaveOwnNames (sym (written meta_of t es new w n))
    (own_with_value name_of t (entries_of meta_of es) (meta_of w) (same ∙ own_at name_of t (entries_of meta_of es) (meta_of v) (found_at meta_of t es v found) own) own)
