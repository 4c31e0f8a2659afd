-- An object of the fields of two.
use Rattle.std.specs.Prelude.{◌≡◌, false, true, not, List, [], ◌++◌, map, None, codes}
use Rattle.std.specs.Option.{unwrap_or}
use Rattle.std.specs.List.{filter}
use Rattle.std.specs.Map.{keys_of}
use Rattle.std.specs.declared.result.Result.TheVariants.{Ok, Err}
use Rattle.gql_registry_meta.specs.Parts.{Text, at_text, is_among, Field, Meta, object}
use Rattle.gql_registry_meta.specs.Caching.{no_hint, merge}
use Rattle.gql_registry_meta.specs.declared.cache_control.CacheControl.{CacheControl}
use Rattle.gql_registry_meta.specs.declared.type_id.MetaTypeId.TheVariants.{Object}
use Rattle.gql_registry.specs.Registry.{Contents}
use Rattle.gql_registry.specs.Created.{Creates, CreatedFor, Faked, Made, Refusal, out_of_memory}

-- both names with a line below between them
abbrev pub merged_name : Text → Text → Text
merged_name first second = first ++ codes "_" ++ second

-- entries in their order, each with the value that the others have under its name, if any; and then the others' new names
abbrev pub joined : {X : Type 0} → List (Text × X) → List (Text × X) → List (Text × X)
joined entries others =
    map (λ entry. (entry.0, unwrap_or (at_text entry.0 others) entry.1)) entries
    ++ filter (λ other. not (is_among other.0 (keys_of entries))) others

-- the fields of an object, and none of another type
abbrev pub own_fields : Meta → List (Text × Field)
own_fields (object type) = type.fields
own_fields _ = []

-- the hint of an object, and none of another type
abbrev pub own_hint : Meta → CacheControl
own_hint (object type) = type.cache_control
own_hint _ = no_hint

-- an object of these fields, with this hint
abbrev pub object_of : Text → List (Text × Field) → CacheControl → Meta
object_of name fields hint = object (record {
  name = name;
  description = None;
  fields = fields;
  cache_control = hint;
  extends = false;
  shareable = false;
  resolvable = true;
  keys = None;
  visible = None;
  inaccessible = false;
  interface_object = false;
  tags = [];
  is_subscription = false;
  directive_invocations = [];
  requires_scopes = [];
})

-- An object of the fields of the second in their order and then the new ones of the first; a name of both has the first's
-- field at the second's place. Its hint is the one that says nothing, merged with that of the second and then with that of
-- the first.
abbrev pub merged : Text → Meta → Meta → Meta
merged name second first = object_of name (joined (own_fields second) (own_fields first)) (merge (merge no_hint (own_hint second)) (own_hint first))

-- How a merged object is made. The second type is created, and then the first, each as its own relation says. The merged
-- object has the fields of the copies that were made of them, the second's as its creation left it and the first's as its
-- creation then left it. A refusal of a side is passed on, and the memory for the object may be refused.
pub data Merges (first : Text) (creates_first : Creates) (second : Text) (creates_second : Creates) (before : Contents) (made : Made) (left : Contents) : Type 0 where
  second_refused : (e : Refusal) → Faked second creates_second before (Err e) left → made ≡ Err e → Merges first creates_first second creates_second before made left
  first_refused : (e : Refusal) (type : Meta) (between : Contents) → Faked second creates_second before (Ok type) between → Faked first creates_first between (Err e) left → made ≡ Err e → Merges first creates_first second creates_second before made left
  no_memory : (type other : Meta) (between : Contents) → Faked second creates_second before (Ok type) between → Faked first creates_first between (Ok other) left → made ≡ Err out_of_memory → Merges first creates_first second creates_second before made left
  merges : (type other : Meta) (between : Contents) → Faked second creates_second before (Ok type) between → Faked first creates_first between (Ok other) left → made ≡ Ok (merged (merged_name first second) type other) → Merges first creates_first second creates_second before made left

-- a merged object is created under both names
abbrev pub CreatesMerged : Text → Creates → Text → Creates → Creates
CreatesMerged first creates_first second creates_second = CreatedFor (Merges first creates_first second creates_second) (merged_name first second) Object
