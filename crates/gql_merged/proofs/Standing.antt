-- A type that stands under a name still stands there after additions.
use Rattle.std.proofs.Common.{Bool, true, false, cond, List, [], ◌∷◌, Some, None, IsSome, refl, subst, sym, take}
use Rattle.std.specs.declared.option.Option.{Option}
use Rattle.std.specs.declared.cmp.Ordering.{Ordering}
use Rattle.std.specs.declared.cmp.Ordering.TheVariants.{Less, Equal, Greater}
use Rattle.std.specs.Option.{option_map_or}
use Rattle.std.specs.Map.{set_value}
use Rattle.std.specs.Str.{bytes_eq}
use Rattle.std.specs.BTreeMap.{insert_entry}
use Rattle.std.specs.Ordering.{match_ordering}
use Rattle.gql_registry_meta.specs.Parts.{Text, at_text, text_cmp, Meta, name_of}
use Rattle.gql_registry.specs.Registry.{Contents, with_type, with_possible}
use Rattle.gql_registry.specs.Additions.{Step, directive, missing_type, query_field, implementing_type, possible_type, object_with, made, all_made, introspection_steps}
use Rattle.gql_merged.specs.QueryRoot.{Describes, undescribed, described, no_memory}
use Rattle.gql_registry.specs.Created.{Answer, answer_of}
use Rattle.gql_registry.specs.declared.registry_error.RegistryError.{RegistryError}
use Rattle.std.specs.declared.result.Result.{Result}
use Rattle.std.specs.declared.result.Result.TheVariants.{Ok, Err}
use Rattle.std.specs.Result.{OnOk}

module _ {X : Type 0} (name : Text) where
  first_or : (b : Bool) (x : X) (o : Option X) → IsSome o → IsSome (cond b (Some x) o)
  first_or true x o h = refl
  first_or false x o h = h

  another_first : (b : Bool) (x y : X) (o : Option X) → IsSome (cond b (Some x) o) → IsSome (cond b (Some y) o)
  another_first true x y o h = refl
  another_first false x y o h = h

  another_rest : (b : Bool) (x : X) (o new : Option X) → (IsSome o → IsSome new) → IsSome (cond b (Some x) o) → IsSome (cond b (Some x) new)
  another_rest true x o new f h = refl
  another_rest false x o new f h = f h

  stands-insert : (t : Text) (es : List (Text × X)) (v : X) → IsSome (at_text name es) → IsSome (at_text name (insert_entry text_cmp es t v))
  stands-insert t [] v h = absurd cc
  stands-insert t (e ∷ es) v h = by (text_cmp t e.0) (stands-insert t es v)
    where
      by : (o : Ordering) → (IsSome (at_text name es) → IsSome (at_text name (insert_entry text_cmp es t v))) → IsSome (at_text name (match_ordering o ((t, v) ∷ e ∷ es) ((e.0, v) ∷ es) (e ∷ insert_entry text_cmp es t v)))
      by Less rest = first_or (bytes_eq name t) v (at_text name (e ∷ es)) h
      by Equal rest = another_first (bytes_eq name e.0) e.1 v (at_text name es) h
      by Greater rest = another_rest (bytes_eq name e.0) e.1 (at_text name es) (at_text name (insert_entry text_cmp es t v)) rest h

  stands-set : (t : Text) (es : List (Text × X)) (v : X) → IsSome (at_text name es) → IsSome (at_text name (set_value (bytes_eq t) es v))
  stands-set t [] v h = h
  stands-set t (e ∷ es) v h = by (bytes_eq t e.0) (stands-set t es v)
    where
      by : (b : Bool) → (IsSome (at_text name es) → IsSome (at_text name (set_value (bytes_eq t) es v))) → IsSome (at_text name (cond b ((e.0, v) ∷ es) (e ∷ set_value (bytes_eq t) es v)))
      by true rest = another_first (bytes_eq name e.0) e.1 v (at_text name es) h
      by false rest = another_rest (bytes_eq name e.0) e.1 (at_text name es) (at_text name (set_value (bytes_eq t) es v)) rest h

module _ (name : Text) (types : List (Text × Meta)) (h : IsSome (at_text name types)) where
  stands-missing : (o : Option Meta) (type : Meta) → IsSome (at_text name (option_map_or (λ _. types) o (with_type types type)))
  stands-missing None type = stands-insert name (name_of type) types type h
  stands-missing (Some there) type = h

  stands-changed : (t : Text) (o : Option Meta) (change : Meta → Meta) → IsSome (at_text name (option_map_or (λ type. set_value (bytes_eq t) types (change type)) o types))
  stands-changed t None change = h
  stands-changed t (Some there) change = stands-set name t types (change there) h

-- after one addition
stands-made : (name : Text) (before : Contents) (step : Step) → IsSome (at_text name before.types) → IsSome (at_text name (made before step).types)
stands-made name before (directive added) h = h
stands-made name before (missing_type added) h = stands-missing name before.types h (at_text (name_of added) before.types) added
stands-made name before (query_field added) h = stands-changed name before.types h before.query (at_text before.query before.types) (object_with added)
stands-made name before (implementing_type added interfaces) h = stands-insert name (name_of added) before.types added h
stands-made name before (possible_type type possible) h = stands-changed name before.types h type (at_text type before.types) (with_possible possible)

-- after all of them
stands-all : (name : Text) (before : Contents) (steps : List Step) → IsSome (at_text name before.types) → IsSome (at_text name (all_made before steps).types)
unfolding all_made
stands-all name before [] h = h
stands-all name before (step ∷ steps) h = stands-all name (made before step) steps (stands-made name before step h)

-- after a schema describes itself
stands-described : (name : Text) (before : Contents) (answer : Answer) (after : Contents) → Describes before answer after → IsSome (at_text name before.types) → IsSome (at_text name after.types)
stands-described name before answer after (undescribed off done end) h = subst (λ (c : Contents). IsSome (at_text name c.types)) (sym end) h
stands-described name before answer after (described on done end) h = subst (λ (c : Contents). IsSome (at_text name c.types)) (sym end) (stands-all name before introspection_steps h)
stands-described name before answer after (no_memory on out some) h = subst (λ (c : Contents). IsSome (at_text name c.types)) (sym some.1) (stands-all name before (take some.0 introspection_steps) h)

-- and where that is the whole answer
pub stands_if_described : (r : Result (Unit {0}) RegistryError) (name : Text) (before after : Contents) → Describes before (answer_of r) after → IsSome (at_text name before.types) → OnOk r (IsSome (at_text name after.types))
stands_if_described (Ok done) name before after d h = stands-described name before (Ok done) after d h
stands_if_described (Err e) name before after d h = tt
