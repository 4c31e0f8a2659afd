-- Each form of a document keeps the laws of forms.
use Rattle.std.proofs.Common.{◌≡◌, ℕ, false, true, List, [], ◌∷◌, ◌++◌, refl}
use Rattle.gql_grammar.specs.Form.{Form, among, apart, one, seq, many, some}
use Rattle.gql_grammar.proofs.Laws.{apart_false}
use Rattle.gql_grammar.proofs.Stops.{Exact, no_ends, one_form, seq_form, opt_form, many_form, some_form, alt_form, map_form, refused_form, declared_form, limited_form}
use Rattle.gql_text_syntax.specs.Sorts as s
use Rattle.gql_text_syntax.specs.Sorts.{only, token}
use Rattle.gql_text_syntax.specs.declared.sort.Sort.{Sort}
use Rattle.gql_text_syntax.specs.declared.sort.Sort.TheVariants.{Ampersand, AtSign, CloseBrace, CloseParen, Colon, Equals, Location, OpenBrace, OpenParen, Pipe, WordDirective, WordEnum, WordExtend, WordImplements, WordInput, WordInterface, WordOn, WordRepeatable, WordScalar, WordSchema, WordType, WordUnion}
use Rattle.gql_text_syntax.specs.Values.{value_with, nested, key}
use Rattle.gql_text_syntax.specs.Types.{named, plain_with, type_with, bracketed}
use Rattle.gql_text_syntax.proofs.Lawful.{bracketed_lawful, type_lawful, value_at_is, key_lawful}
use Rattle.gql_text_syntax.proofs.DepthLawful.{type_limits, value_limits}
use Rattle.gql_text_syntax.specs.Grammar as g
use Rattle.gql_text_syntax.proofs.Rows.{rows}

token_lawful : (sort : Sort) → no_ends (only sort) ≡ true → Exact (token sort)
token_lawful sort z = one_form (only sort) z

name_lawful : Exact (one s.names)
name_lawful = one_form s.names refl

pub type_ref_lawful : Exact g.type_ref
unfolding type_with plain_with named
type_ref_lawful =
    let b = bracketed_lawful 64 in
    let t = type_lawful (bracketed 64) b in
    let c = type_limits in
    limited_form g.TypeLimit _ (declared_form _ _ _ (type_with (bracketed 64)) t (rw (b.first, b.solid) refl) (rw b.more refl) (rw b.solid refl)) (λ ts h k. (t.broken ts h k, c.sound ts h k 0)) (λ ts h k. c.exact ts h k.0 0 k.1)

pub value_lawful : Exact g.value
value_lawful =
    let v = value_at_is 64 in
    let c = value_limits in
    limited_form g.ValueLimit _ (declared_form _ _ _ (value_with (nested 64)) v.lawful v.first v.more v.solid) (λ ts h k. (v.lawful.broken ts h k, c.sound ts h k 0)) (λ ts h k. c.exact ts h k.0 0 k.1)

pub described_lawful : Exact g.described
unfolding rows
described_lawful = map_form _ _ (one_form s.strings refl)

pub description_lawful : Exact g.description
unfolding rows
description_lawful = opt_form _ described_lawful refl

apart_none : (xs : List ℕ) → apart xs [] ≡ true
apart_none [] = refl
apart_none (x ∷ xs) = apart_none xs

pub braced_lawful : {A : Type 0} (f : Form A) → Exact f → f.empty ≡ false → apart f.first f.more ≡ true → apart (only CloseBrace) (f.first ++ f.more) ≡ true → Exact (g.braced f)
unfolding rows
braced_lawful f e solid ll close = map_form _ _ (seq_form _ _ (token_lawful OpenBrace refl) (seq_form _ _ (many_form f e solid ll) (token_lawful CloseBrace refl) close) (apart_none ((f.first ++ (only CloseBrace)))))

pub body_lawful : {A : Type 0} (f : Form A) → Exact (g.braced f) → Exact (g.body f)
unfolding rows
body_lawful f e = map_form _ _ (opt_form _ e refl)

pub parenthesized_lawful : {A : Type 0} (f : Form A) → Exact f → f.empty ≡ false → apart f.first f.more ≡ true → apart (only CloseParen) (some f).more ≡ true → Exact (g.parenthesized f)
unfolding rows
parenthesized_lawful f e solid ll close = map_form _ _ (seq_form _ _ (token_lawful OpenParen refl) (seq_form _ _ (some_form f e solid ll) (token_lawful CloseParen refl) close) (apart_none (seq (some f) (token CloseParen)).first))

pub arguments_lawful : {A : Type 0} (f : Form A) → Exact (g.parenthesized f) → Exact (g.arguments f)
unfolding rows
arguments_lawful f e = map_form _ _ (opt_form _ e refl)

pub argument_lawful : Exact g.argument
unfolding rows
argument_lawful = map_form _ _ (seq_form _ _ key_lawful (seq_form _ _ (token_lawful Colon refl) value_lawful refl) refl)

pub given_lawful : Exact (g.arguments g.argument)
unfolding rows
given_lawful = arguments_lawful g.argument (parenthesized_lawful g.argument argument_lawful refl refl refl)

pub directive_use_lawful : Exact g.directive_use
unfolding rows
directive_use_lawful = map_form _ _ (seq_form _ _ (token_lawful AtSign refl) (seq_form _ _ name_lawful given_lawful refl) refl)

pub uses_lawful : Exact (many g.directive_use)
unfolding rows
uses_lawful = many_form _ directive_use_lawful refl refl

pub default_lawful : Exact g.default_value
unfolding rows
default_lawful = map_form _ _ (seq_form _ _ (token_lawful Equals refl) value_lawful refl)

pub input_value_lawful : Exact g.input_value
unfolding rows
input_value_lawful = map_form _ _ (seq_form _ _ description_lawful (seq_form _ _ key_lawful (seq_form _ _ (token_lawful Colon refl)
    (seq_form _ _ type_ref_lawful (seq_form _ _ (opt_form _ default_lawful refl) uses_lawful refl) refl) refl) refl) refl)

pub parameters_lawful : Exact (g.arguments g.input_value)
unfolding rows
parameters_lawful = arguments_lawful g.input_value (parenthesized_lawful g.input_value input_value_lawful refl refl refl)

pub field_lawful : Exact g.field
unfolding rows
field_lawful = map_form _ _ (seq_form _ _ description_lawful (seq_form _ _ key_lawful (seq_form _ _ parameters_lawful (seq_form _ _ (token_lawful Colon refl)
    (seq_form _ _ type_ref_lawful uses_lawful refl) refl) refl) refl) refl)

pub enum_value_lawful : Exact g.enum_value
unfolding rows
enum_value_lawful = map_form _ _ (seq_form _ _ description_lawful (seq_form _ _ (map_form _ _ (one_form s.enum_names refl)) uses_lawful refl) refl)

pub root_lawful : Exact g.root
unfolding rows
root_lawful = map_form _ _ (seq_form _ _ (one_form s.operations refl) (seq_form _ _ (token_lawful Colon refl) name_lawful refl) refl)

pub next_lawful : {A : Type 0} (sign : Sort) (item : Form A) → no_ends (only sign) ≡ true → Exact item → Exact (g.next sign item)
unfolding rows
next_lawful sign item z e = map_form _ _ (seq_form _ _ (token_lawful sign z) e (apart_none item.first))

pub joined_lawful : {A : Type 0} (sign : Sort) (item : Form A) → no_ends (only sign) ≡ true → Exact item → item.empty ≡ false → item.more ≡ [] → apart item.first (only sign) ≡ true → Exact (g.joined sign item)
unfolding rows
joined_lawful sign item z e solid more d = map_form _ _ (seq_form _ _ (opt_form _ (token_lawful sign z) refl) (seq_form _ _ e (many_form _ (next_lawful sign item z e) refl (rw (solid, more) refl)) (rw more refl)) (rw solid d))

pub location_lawful : Exact g.location
unfolding rows
location_lawful = map_form _ _ (token_lawful Location refl)

pub roots_lawful : Exact g.roots
unfolding rows
roots_lawful = map_form _ _ (seq_form _ _ (token_lawful OpenBrace refl) (seq_form _ _ (some_form _ root_lawful refl refl) (token_lawful CloseBrace refl) refl) refl)

pub schema_block_lawful : Exact g.schema_block
unfolding rows
schema_block_lawful = map_form _ _ (seq_form _ _ (token_lawful WordSchema refl) (seq_form _ _ uses_lawful roots_lawful refl) refl)

pub scalar_lawful : Exact g.scalar
unfolding rows
scalar_lawful = map_form _ _ (seq_form _ _ (token_lawful WordScalar refl) (seq_form _ _ key_lawful uses_lawful refl) refl)

pub implements_lawful : Exact g.implements
unfolding rows
implements_lawful = map_form _ _ (seq_form _ _ (token_lawful WordImplements refl) (joined_lawful Ampersand key refl key_lawful refl refl refl) refl)

pub fields_lawful : Exact (g.body g.field)
unfolding rows
fields_lawful = body_lawful g.field (braced_lawful g.field field_lawful refl refl refl)

pub object_like_lawful : Exact g.object_like
unfolding rows
object_like_lawful = map_form _ _ (seq_form _ _ key_lawful (seq_form _ _ (opt_form _ implements_lawful refl) (seq_form _ _ uses_lawful fields_lawful refl) refl) refl)

pub object_lawful : Exact g.object
unfolding rows
object_lawful = map_form _ _ (seq_form _ _ (token_lawful WordType refl) object_like_lawful refl)

pub interface_lawful : Exact g.«interface»
unfolding rows
interface_lawful = map_form _ _ (seq_form _ _ (token_lawful WordInterface refl) object_like_lawful refl)

pub members_lawful : Exact g.members
unfolding rows
members_lawful = map_form _ _ (opt_form _ (map_form _ _ (seq_form _ _ (token_lawful Equals refl) (joined_lawful Pipe key refl key_lawful refl refl refl) refl)) refl)

pub union_lawful : Exact g.union_type
unfolding rows
union_lawful = map_form _ _ (seq_form _ _ (token_lawful WordUnion refl) (seq_form _ _ key_lawful (seq_form _ _ uses_lawful members_lawful refl) refl) refl)

pub enum_values_lawful : Exact (g.body g.enum_value)
unfolding rows
enum_values_lawful = body_lawful g.enum_value (braced_lawful g.enum_value enum_value_lawful refl refl refl)

pub enum_lawful : Exact g.enum_type
unfolding rows
enum_lawful = map_form _ _ (seq_form _ _ (token_lawful WordEnum refl) (seq_form _ _ key_lawful (seq_form _ _ uses_lawful enum_values_lawful refl) refl) refl)

pub input_fields_lawful : Exact (g.body g.input_value)
unfolding rows
input_fields_lawful = body_lawful g.input_value (braced_lawful g.input_value input_value_lawful refl refl refl)

pub input_lawful : Exact g.input
unfolding rows
input_lawful = map_form _ _ (seq_form _ _ (token_lawful WordInput refl) (seq_form _ _ key_lawful (seq_form _ _ uses_lawful input_fields_lawful refl) refl) refl)

pub directive_lawful : Exact g.directive
unfolding rows
directive_lawful = map_form _ _ (seq_form _ _ (token_lawful WordDirective refl) (seq_form _ _ (token_lawful AtSign refl) (seq_form _ _ key_lawful (seq_form _ _ parameters_lawful
    (seq_form _ _ (opt_form _ (token_lawful WordRepeatable refl) refl) (seq_form _ _ (token_lawful WordOn refl) (joined_lawful Pipe g.location refl location_lawful refl refl refl) refl) refl) refl) refl) refl) refl)

pub type_kind_lawful : Exact g.type_kind
unfolding rows
type_kind_lawful = alt_form _ _ union_lawful (alt_form _ _ enum_lawful (alt_form _ _ input_lawful directive_lawful refl refl refl) refl refl refl) refl refl refl

pub kind_lawful : Exact g.kind
unfolding rows
kind_lawful = alt_form _ _ schema_block_lawful (alt_form _ _ scalar_lawful (alt_form _ _ object_lawful (alt_form _ _ interface_lawful type_kind_lawful refl refl refl) refl refl refl) refl refl refl) refl refl refl

pub described_definition_lawful : Exact g.described_definition
unfolding rows
described_definition_lawful = map_form _ _ (seq_form _ _ description_lawful kind_lawful refl)

pub definition_lawful : Exact g.definition
unfolding rows
definition_lawful = alt_form _ _ (refused_form (only WordExtend) refl) described_definition_lawful refl refl refl

pub document_lawful : Exact g.document
unfolding rows
document_lawful = some_form _ definition_lawful refl refl

-- ---- what takes no empty spelling

pub argument_solid : g.argument.empty ≡ false
unfolding rows
argument_solid = refl

pub directive_use_solid : g.directive_use.empty ≡ false
unfolding rows
directive_use_solid = refl

pub input_value_solid : g.input_value.empty ≡ false
unfolding rows
input_value_solid = refl

pub field_solid : g.field.empty ≡ false
unfolding rows
field_solid = refl

pub enum_value_solid : g.enum_value.empty ≡ false
unfolding rows
enum_value_solid = refl

pub root_solid : g.root.empty ≡ false
unfolding rows
root_solid = refl

pub key_solid : key.empty ≡ false
unfolding rows
key_solid = refl

pub location_solid : g.location.empty ≡ false
unfolding rows
location_solid = refl

pub definition_solid : g.definition.empty ≡ false
unfolding rows
definition_solid = refl

-- the end does not go on with a document
pub document_ends : (sort : ℕ) → among sort s.ends ≡ true → among sort g.document.more ≡ false
unfolding rows
document_ends sort e = apart_false sort s.ends g.document.more refl e
