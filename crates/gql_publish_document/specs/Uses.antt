-- What the uses of directives on one owner say of it: an attribute is part of its owner, and every other use stands beside
-- it. Sections 2.12, 3.5.1 and 3.13.3 of the GraphQL specification, October 2021.
use Rattle.std.specs.Prelude.{Bool, not, List, [], ◌∷◌, Option, Some, None, map}
use Rattle.std.specs.List.{filter, find, list_any}
use Rattle.std.specs.Str.{bytes_eq}
use Rattle.gql_text_values.specs.declared.const_value.ConstValue.{ConstValue, out-ConstValue}
use Rattle.gql_text_values.specs.declared.const_value.ConstValue.TheOpen.{ConstValue-F}
use Rattle.gql_text.specs.Owners.{deprecated, specified_by, one_of, is_attribute}
use Rattle.gql_text.specs.declared.document.DirectiveUse.{DirectiveUse}
use Rattle.gql_registry_meta.specs.Parts.{Text, Deprecated, not_deprecated, deprecated_for, Invocation}

-- the text of a string, by its outermost form
abbrev pub string_layer : ConstValue-F ConstValue → Option Text
string_layer (ConstValue-F.String text) = Some text
string_layer _ = None

-- the text of the first argument, where that is a string: an attribute takes at most one argument
abbrev pub first_string : List (Text × ConstValue) → Option Text
first_string [] = None
first_string (argument ∷ arguments) = string_layer (out-ConstValue argument.1)

-- a use of the directive of this name
abbrev pub is_use_of : Text → DirectiveUse → Bool
is_use_of name use_ = bytes_eq use_.name name

-- not deprecated without the attribute; with it, for its reason or for none: section 3.13.3
abbrev pub deprecation_by : Option DirectiveUse → Deprecated
deprecation_by None = not_deprecated
deprecation_by (Some use_) = deprecated_for (first_string use_.args)

-- by the first `@deprecated`
abbrev pub deprecation_in : List DirectiveUse → Deprecated
deprecation_in uses = deprecation_by (find (is_use_of deprecated) uses)

-- the URL of the first `@specifiedBy`: section 3.5.1
abbrev pub url_by : Option DirectiveUse → Option Text
url_by None = None
url_by (Some use_) = first_string use_.args

abbrev pub url_in : List DirectiveUse → Option Text
url_in uses = url_by (find (is_use_of specified_by) uses)

-- `@oneOf` is among them
abbrev pub has_one_of : List DirectiveUse → Bool
has_one_of uses = list_any (is_use_of one_of) uses

-- a use of a directive, without its place: section 2.12
abbrev pub invocation : DirectiveUse → Invocation
invocation use_ = record { name = use_.name; args = use_.args }

-- a use that is no attribute
abbrev pub is_custom : DirectiveUse → Bool
is_custom use_ = not (is_attribute use_.name)

-- the uses that are no attributes, in their order
abbrev pub invocations_in : List DirectiveUse → List Invocation
invocations_in uses = map invocation (filter is_custom uses)
