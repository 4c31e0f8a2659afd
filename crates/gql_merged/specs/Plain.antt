-- Types of code that stand for types without parts.
use Rattle.std.specs.Prelude.{◌≡◌, ◌⊎◌, Bool, false, true, [], None}
use Rattle.std.specs.declared.result.Result.TheVariants.{Ok, Err}
use Rattle.gql_registry_meta.specs.Parts.{Text, Meta, object, name_of}
use Rattle.gql_registry_meta.specs.Kinds.{kind_of}
use Rattle.gql_registry_meta.specs.Caching.{no_hint}
use Rattle.gql_registry.specs.Registry.{Contents}
use Rattle.gql_registry.specs.Created.{Made, Created, Creates, out_of_memory}

-- an object without fields; `is_subscription`: it is the root of subscriptions
abbrev pub empty_object : Text → Bool → Meta
empty_object name is_subscription = object (record {
  name = name;
  description = None;
  fields = [];
  cache_control = no_hint;
  extends = false;
  shareable = false;
  resolvable = true;
  keys = None;
  visible = None;
  inaccessible = false;
  interface_object = false;
  tags = [];
  is_subscription = is_subscription;
  directive_invocations = [];
  requires_scopes = [];
})

-- a maker of this type, which changes nothing; or the memory for it is refused
abbrev pub MakesOnly : Meta → Contents → Made → Contents → Type 0
MakesOnly type before made left = ((made ≡ Ok type) ⊎ (made ≡ Err out_of_memory)) × (left ≡ before)

-- the type is created under its name by such a maker
abbrev pub CreatesOnly : Meta → Creates
CreatesOnly type = Created (MakesOnly type) (name_of type) (kind_of type)
