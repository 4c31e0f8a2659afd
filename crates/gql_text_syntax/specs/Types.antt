-- Type = (Name | "[" Type "]") "!"?, section 2.11 of the GraphQL specification, October 2021
use Rattle.std.specs.Prelude.{ℕ, zero, suc, Option, Some, None}
use Rattle.gql_grammar.specs.Form.{Terminal, Form, one, seq, opt, alt, ◌<$>◌, refused}
use Rattle.gql_text_syntax.specs.Sorts as s
use Rattle.gql_text_syntax.specs.Sorts.{only, token}
use Rattle.gql_text_syntax.specs.declared.sort.Sort.TheVariants.{Bang, CloseBracket, OpenBracket}
use Rattle.gql_text_syntax.specs.declared.syntax.TypeTree.{TypeTree, fold-TypeTree}
use Rattle.gql_text_syntax.specs.declared.syntax.TypeTree.TheOpen.{TypeTree-F}
use Rattle.gql_text_syntax.specs.declared.syntax.TypeTree.TheVariants.{Named, NonNull, List as Listed}
use Rattle.gql_text_values.specs.declared.type_ref.TypeRef.{TypeRef}
use Rattle.gql_text_values.specs.declared.type_ref.TypeRef.TheVariants as refs

-- a type that is not null where the mark stands
abbrev pub marked : TypeTree → Option Terminal → TypeTree
marked t None = t
marked t (Some mark) = NonNull t

-- NamedType
unfoldable pub named : Form TypeTree
named = (λ t. Named t.text) <$> one s.names

-- a type without its mark, of which the form in brackets is given
unfoldable pub plain_with : Form TypeTree → Form TypeTree
plain_with bracketed = alt named bracketed

-- a type, of which the form in brackets is given
unfoldable pub type_with : Form TypeTree → Form TypeTree
type_with bracketed = (λ p. marked p.0 p.1) <$> seq (plain_with bracketed) (opt (token Bang))

-- ListType, of which the form inside is given
unfoldable pub list_with : Form TypeTree → Form TypeTree
list_with inner = (λ p. Listed p.1.0) <$> seq (token OpenBracket) (seq inner (token CloseBracket))

-- a type in brackets, where this many brackets may still be open
unfoldable pub bracketed : ℕ → Form TypeTree
bracketed zero = refused (only OpenBracket)
bracketed (suc n) = list_with (type_with (bracketed n))

-- a type in which this many brackets may be open
abbrev pub type_within : ℕ → Form TypeTree
type_within n = type_with (bracketed n)

-- ---- the type that a written one stands for

-- one level, with the inner type in its place
abbrev pub type_step : TypeTree-F TypeRef → TypeRef
type_step (TypeTree-F.Named name) = refs.Named name
type_step (TypeTree-F.NonNull inner) = refs.NonNull inner
type_step (TypeTree-F.List inner) = refs.List inner

-- the type reference that is built alike
abbrev pub type_of : TypeTree → TypeRef
type_of = fold-TypeTree TypeRef type_step
