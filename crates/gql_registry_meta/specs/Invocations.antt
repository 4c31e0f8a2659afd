-- Uses of directives as they are written: section 2.12 of the GraphQL specification, October 2021.
use Rattle.std.specs.Prelude.{List, [], ◌∷◌, ◌++◌, codes}
use Rattle.std.specs.List.{join_by}
use Rattle.gql_text_values.specs.ConstValues.{entry_text, value_text}
use Rattle.gql_text_values.specs.declared.const_value.ConstValue.{ConstValue}
use Rattle.gql_registry_meta.specs.Parts.{Text, Invocation}

-- `a: v`
abbrev pub argument_text : Text × ConstValue → Text
argument_text argument = entry_text (argument.0, value_text argument.1)

-- `(a: v, b: w)`, or nothing
abbrev pub arguments_text : List (Text × ConstValue) → Text
arguments_text [] = []
arguments_text (argument ∷ arguments) = codes "(" ++ (join_by argument_text (codes ", ") (argument ∷ arguments) ++ codes ")")

-- `@name(a: v, b: w)`
abbrev pub invocation_text : Invocation → Text
invocation_text invocation = codes "@" ++ (invocation.name ++ arguments_text invocation.args)
