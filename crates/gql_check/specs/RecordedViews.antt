-- What the builder and the schema of the code stand for.
use Rattle.std.specs.Prelude.{Bool, map}
use Rattle.std.specs.declared.vec.Vec.{Vec}
use Rattle.std.specs.declared.alloc.Global.{Global}
use Rattle.gql_registry_meta.specs.Views.{directive_of}
use Rattle.gql_registry_meta.specs.declared.directive.MetaDirective.{MetaDirective}
use Rattle.gql_check_code.specs.CheckedViews.{schema_parts}
use Rattle.gql_check_code.specs.declared.types.SchemaTypes.{SchemaTypes}
use Rattle.gql_check.specs.Recorded.{Recorded}

-- Types may have functions in them, so what holds types takes two arguments more, which belong to those functions.
abbrev pub recorded_as : {x g : _} → SchemaTypes x g → Vec MetaDirective Global → Bool → Recorded
recorded_as types directives is_disabled = record {
  schema = schema_parts types;
  directives = map directive_of directives.items;
  is_disabled = is_disabled;
}
