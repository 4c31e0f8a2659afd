use Rattle.std.proofs.Common.{◌≡◌, ◌++◌, flat_map}
use Rattle.gql_registry_meta.specs.Views.{texts_in, field_of}
use Rattle.gql_registry_closures.specs.Names.{field_names}
use Rattle.gql_registry_closures.proofs.naming.add_fields.Given as goal

-- the names so far, with those of what is left
abbrev pub invariant-loop-field : goal.invariant-loop-field
invariant-loop-field l =
    texts_in l.names.items ++ flat_map (λ x. field_names (field_of x)) l.field-iterator
    ≡ texts_in l.initial.names.items ++ flat_map (λ x. field_names (field_of x)) l.initial.field-iterator
