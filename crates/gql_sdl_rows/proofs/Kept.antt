-- The parts of a document that fitting tokens spell are sound: names are names, types and values are within the limits.
use Rattle.std.proofs.Common.{◌≡◌, ℕ, Bool, true, false, List, [], ◌∷◌, Option, Some, None, map, refl, sym, subst}
use Rattle.std.specs.Prelude.{◌==◌, ◌||◌}
use Rattle.std.specs.List.{AllByRecursion}
use Rattle.std.specs.Option.{option_map}
use Rattle.gql_grammar.specs.Form.{Form, among, one, opt, many}
use Rattle.gql_text_lexer.specs.Forms.{IsName}
use Rattle.gql_text_syntax.specs.Documents.{SpelledBy}
use Rattle.gql_text_syntax.specs.Grammar as g
use Rattle.gql_text_syntax.specs.Reads.{or_none}
use Rattle.gql_text_syntax.specs.Sorts as s
use Rattle.gql_text_syntax.specs.Sorts.{code, only, token}
use Rattle.gql_text_syntax.specs.Types.{type_of}
use Rattle.gql_text_syntax.specs.Values.{key}
use Rattle.gql_text_syntax.specs.declared.sort.Sort.{Sort}
use Rattle.gql_text_syntax.specs.declared.sort.Sort.TheVariants.{Ampersand, AtSign, CloseBrace, CloseParen, Colon, Equals, Location, OpenBrace, OpenParen, Pipe, WordDirective, WordEnum, WordExtend, WordFalse, WordImplements, WordInput, WordInterface, WordNull, WordOn, WordRepeatable, WordScalar, WordSchema, WordTrue, WordType, WordUnion}
use Rattle.gql_text_syntax.specs.declared.syntax.Argument.{Argument}
use Rattle.gql_text_syntax.specs.declared.syntax.Description.{Description}
use Rattle.gql_text_syntax.specs.declared.syntax.Implements.{Implements}
use Rattle.gql_text_syntax.specs.declared.syntax.Kind.{Kind}
use Rattle.gql_text_syntax.specs.declared.syntax.Literal.{Literal}
use Rattle.gql_text_syntax.specs.declared.syntax.ObjectLike.{ObjectLike}
use Rattle.gql_text_syntax.specs.declared.syntax.PlacedName.{PlacedName}
use Rattle.gql_text_syntax.specs.declared.syntax.Use.{Use}
use Rattle.gql_text_syntax.specs.declared.syntax.WrittenDefinition.{WrittenDefinition}
use Rattle.gql_text.specs.DocumentOf.{const_value_of, argument_of, use_of, input_of, field_def_of, enum_value_of, implements_of, bare_names_of, root_line_of, kind_of, definition_of}
use Rattle.gql_text.specs.Verdict.{Spells}
use Rattle.gql_text.specs.declared.document.Document.{Document}
use Rattle.gql_sdl_readback.proofs.Texts.{FitsSort, Keeps}
use Rattle.gql_sdl_readback.proofs.Keeps.{any, name_keeps, refused_keeps, seq_keeps, map_keeps, alt_keeps, opt_keeps, AllIn, many_keeps, some_keeps, document_keeps}
use Rattle.gql_sdl_readback.proofs.Sound.{IsEnumName, IsSound}
use Rattle.gql_sdl_rows.specs.Shown.{invocation_of}
use Rattle.gql_sdl_rows.proofs.Documents.{AreSound}
use Rattle.gql_sdl_rows.proofs.KeptValues.{same_sort, Stands, key_keeps, value_keeps}
use Rattle.gql_sdl_rows.proofs.Parts.{HasItem, IsSoundType, IsSoundArgument, IsSoundInvocation, AreSoundUses, IsSoundDefault, IsSoundInput, IsSoundField, IsSoundValue, IsLocation, IsSoundDefinition}

-- ---- names of enum values, arguments and uses

in_names : (n : ℕ) → among n s.enum_names ≡ true → among n s.names ≡ true
in_names n a = rw a (by_tests (n == code WordTrue) (n == code WordFalse) (n == code WordNull))
  where
    by_tests : (y f e : Bool) → (y || (f || (e || true))) ≡ true
    by_tests true f e = refl
    by_tests false true e = refl
    by_tests false false true = refl
    by_tests false false false = refl

enum_name_keeps : Keeps g.enum_name (λ k. IsEnumName k.name)
enum_name_keeps = map_keeps one_token (λ t h. h)
  where
    one_token : Keeps (one s.enum_names) (λ t. IsEnumName t.text)
    one_token = record { each = λ t ts m fit. let f = (subst (AllByRecursion FitsSort) m.1 fit).0 in let n = in_names t.sort m.0 in (f.name n, subst (λ (k : ℕ). among k s.enum_names ≡ true) (f.sort n) m.0) }

argument_keeps : Keeps g.argument (λ a. IsSoundArgument (argument_of a))
unfolding g.argument
argument_keeps = map_keeps (seq_keeps key_keeps (seq_keeps (any (token Colon)) value_keeps)) (λ p h. record { name = h.0; value = h.1.1 })

abbrev AreSoundArguments : List Argument → Type 0
AreSoundArguments args = AllByRecursion (λ a. IsSoundArgument (argument_of a)) args

parenthesized_keeps : Keeps (g.parenthesized g.argument) AreSoundArguments
unfolding g.parenthesized
parenthesized_keeps = map_keeps (seq_keeps (any (token OpenParen)) (seq_keeps (some_keeps argument_keeps) (any (token CloseParen)))) (λ p h. h.1.0)

arguments_keep : Keeps (g.arguments g.argument) AreSoundArguments
unfolding g.arguments
arguments_keep = map_keeps (opt_keeps parenthesized_keeps) (λ o h. by_option o h)
  where
    by_option : (o : Option (List Argument)) → AllIn AreSoundArguments o → AreSoundArguments (or_none o)
    by_option None h = tt
    by_option (Some args) h = h

all_sound : (args : List Argument) → AreSoundArguments args → AllByRecursion IsSoundArgument (map argument_of args)
all_sound [] a = tt
all_sound (x ∷ xs) a = (a.0, all_sound xs a.1)

-- each of these is of the list that is made of them
pub all_made : {X Y : Type 0} (of : X → Y) (P : Y → Type 0) (xs : List X) → AllByRecursion (λ x. P (of x)) xs → AllByRecursion P (map of xs)
all_made of P [] a = tt
all_made of P (x ∷ xs) a = (a.0, all_made of P xs a.1)

abbrev IsUse : Use → Type 0
IsUse u = IsSoundInvocation (invocation_of (use_of u))

use_keeps : Keeps g.directive_use IsUse
unfolding g.directive_use
use_keeps = map_keeps (seq_keeps (any (token AtSign)) (seq_keeps name_keeps arguments_keep)) (λ p h. record { name = h.1.0; arguments = all_sound p.1.1 h.1.1 })

uses_keep : Keeps (many g.directive_use) (λ us. AreSoundUses (map use_of us))
uses_keep = record { each = λ us ts m fit. all_made use_of (λ u. IsSoundInvocation (invocation_of u)) us ((many_keeps use_keeps).each us ts m fit) }

-- ---- members

type_keeps : Keeps g.type_ref (λ t. IsSoundType (type_of t))
type_keeps = record { each = λ t ts m fit. record { tree = t; spelled = record { terminals = ts; spells = m; fit = fit }; same = refl } }

default_keeps : Keeps g.default_value (Stands (IsSound 64))
unfolding g.default_value
default_keeps = map_keeps (seq_keeps (any (token Equals)) value_keeps) (λ p h. h.1)

sound_default : (o : Option Literal) → AllIn (Stands (IsSound 64)) o → IsSoundDefault (option_map const_value_of o)
sound_default None h = tt
sound_default (Some v) h = h

input_keeps : Keeps g.input_value (λ i. IsSoundInput (input_of i))
unfolding g.input_value
input_keeps =
    map_keeps (seq_keeps (any g.description) (seq_keeps key_keeps (seq_keeps (any (token Colon)) (seq_keeps type_keeps (seq_keeps (opt_keeps default_keeps) uses_keep)))))
    (λ p h. record { name = h.1.0; ty = h.1.1.1.0; default = sound_default p.1.1.1.1.0 h.1.1.1.1.0; uses = h.1.1.1.1.1 })

module _ {A : Type 0} (item : Form A) (P : A → Type 0) (k : Keeps item P) where
  given_keeps : Keeps (g.parenthesized item) (AllByRecursion P)
  unfolding g.parenthesized
  given_keeps = map_keeps (seq_keeps (any (token OpenParen)) (seq_keeps (some_keeps k) (any (token CloseParen)))) (λ p h. h.1.0)

  any_given : (o : Option (List A)) → AllIn (AllByRecursion P) o → AllByRecursion P (or_none o)
  any_given None h = tt
  any_given (Some xs) h = h

  inputs_keep : Keeps (g.arguments item) (AllByRecursion P)
  unfolding g.arguments
  inputs_keep = map_keeps (opt_keeps given_keeps) (λ o h. any_given o h)

  braced_keeps : Keeps (g.braced item) (AllByRecursion P)
  unfolding g.braced
  braced_keeps = map_keeps (seq_keeps (any (token OpenBrace)) (seq_keeps (many_keeps k) (any (token CloseBrace)))) (λ p h. h.1.0)

  body_keeps : Keeps (g.body item) (AllByRecursion P)
  unfolding g.body
  body_keeps = map_keeps (opt_keeps braced_keeps) (λ o h. any_given o h)

field_keeps : Keeps g.field (λ f. IsSoundField (field_def_of f))
unfolding g.field
field_keeps =
    map_keeps (seq_keeps (any g.description) (seq_keeps key_keeps (seq_keeps (inputs_keep g.input_value (λ i. IsSoundInput (input_of i)) input_keeps) (seq_keeps (any (token Colon)) (seq_keeps type_keeps uses_keep)))))
    (λ p h. record { name = h.1.0; args = all_made input_of IsSoundInput p.1.1.0 h.1.1.0; ty = h.1.1.1.1.0; uses = h.1.1.1.1.1 })

value_item_keeps : Keeps g.enum_value (λ v. IsSoundValue (enum_value_of v))
unfolding g.enum_value
value_item_keeps = map_keeps (seq_keeps (any g.description) (seq_keeps enum_name_keeps uses_keep)) (λ p h. record { name = h.1.0; uses = h.1.1 })

-- ---- names with a sign between them

module _ {A : Type 0} (sign : Sort) (item : Form A) (P : A → Type 0) (k : Keeps item P) where
  next_keeps : Keeps (g.next sign item) P
  unfolding g.next
  next_keeps = map_keeps (seq_keeps (any (token sign)) k) (λ p h. h.1)

  pub joined_keeps : Keeps (g.joined sign item) (λ xs. AllByRecursion P xs × HasItem xs)
  unfolding g.joined
  joined_keeps = map_keeps (seq_keeps (any (opt (token sign))) (seq_keeps k (many_keeps next_keeps))) (λ p h. ((h.1.0, h.1.1), tt))

abbrev pub IsKeyed : PlacedName → Type 0
IsKeyed p = IsName p.name

implements_keeps : Keeps g.implements (λ i. AllByRecursion IsName (bare_names_of i.names))
unfolding g.implements
implements_keeps = map_keeps (seq_keeps (any (token WordImplements)) (joined_keeps Ampersand key IsKeyed key_keeps)) (λ p h. all_made (λ (n : PlacedName). n.name) IsName p.1 h.1.0)

sound_implements : (o : Option Implements) → AllIn (λ i. AllByRecursion IsName (bare_names_of i.names)) o → AllByRecursion IsName (implements_of o)
sound_implements None h = tt
sound_implements (Some i) h = h

members_given_keep : Keeps g.members_given (λ ps. AllByRecursion IsKeyed ps)
unfolding g.members_given
members_given_keep = map_keeps (seq_keeps (any (token Equals)) (joined_keeps Pipe key IsKeyed key_keeps)) (λ p h. h.1.0)

members_keep : Keeps g.members (λ ps. AllByRecursion IsName (bare_names_of ps))
unfolding g.members
members_keep = map_keeps (opt_keeps members_given_keep) (λ o h. by_option o h)
  where
    by_option : (o : Option (List PlacedName)) → AllIn (λ ps. AllByRecursion IsKeyed ps) o → AllByRecursion IsName (bare_names_of (or_none o))
    by_option None h = tt
    by_option (Some ps) h = all_made (λ (n : PlacedName). n.name) IsName ps h

location_name : (n : ℕ) → among n (only Location) ≡ true → among n s.names ≡ true
location_name n a = rw (same_sort n (code Location) a) refl

location_keeps : Keeps g.location IsLocation
unfolding g.location
location_keeps = map_keeps one_token (λ t h. h)
  where
    one_token : Keeps (token Location) (λ t. IsLocation t.text)
    one_token = record { each = λ t ts m fit. let f = (subst (AllByRecursion FitsSort) m.1 fit).0 in let n = location_name t.sort m.0 in (f.name n, subst (λ (k : ℕ). among k (only Location) ≡ true) (f.sort n) m.0) }

-- ---- definitions

-- what was read of an object or of an interface
record IsLike (o : ObjectLike) : Type 0 where
  name : IsName o.key.name
  implements : AllByRecursion IsName (implements_of o.implements)
  uses : AreSoundUses (map use_of o.uses)
  fields : AllByRecursion IsSoundField (map field_def_of o.fields)

like_keeps : Keeps g.object_like IsLike
unfolding g.object_like
like_keeps =
    map_keeps (seq_keeps key_keeps (seq_keeps (opt_keeps implements_keeps) (seq_keeps uses_keep (body_keeps g.field (λ f. IsSoundField (field_def_of f)) field_keeps))))
    (λ p h. record { name = h.0; implements = sound_implements p.1.0 h.1.0; uses = h.1.1.0; fields = all_made field_def_of IsSoundField p.1.1.1 h.1.1.1 })

-- a kind stands for a sound definition, whatever its description
abbrev IsSoundKind : Kind → Type 0
IsSoundKind k = (d : Option Description) → IsSoundDefinition (kind_of d k)

root_keeps : Keeps g.root (λ r. IsName r.name)
unfolding g.root
root_keeps = map_keeps (seq_keeps (any (one s.operations)) (seq_keeps (any (token Colon)) name_keeps)) (λ p h. h.1.1)

roots_keep : Keeps g.roots (λ rs. AllByRecursion (λ r. IsName r.name) rs)
unfolding g.roots
roots_keep = map_keeps (seq_keeps (any (token OpenBrace)) (seq_keeps (some_keeps root_keeps) (any (token CloseBrace)))) (λ p h. h.1.0)

block_keeps : Keeps g.schema_block IsSoundKind
unfolding g.schema_block
block_keeps = map_keeps (seq_keeps (any (token WordSchema)) (seq_keeps (any (many g.directive_use)) roots_keep)) (λ p h d. all_made root_line_of (λ r. IsName r.name) p.1.1 h.1.1)

scalar_keeps : Keeps g.scalar IsSoundKind
unfolding g.scalar
scalar_keeps = map_keeps (seq_keeps (any (token WordScalar)) (seq_keeps key_keeps uses_keep)) (λ p h d. record { name = h.1.0; uses = h.1.1 })

object_keeps : Keeps g.object IsSoundKind
unfolding g.object
object_keeps = map_keeps (seq_keeps (any (token WordType)) like_keeps) (λ p h d. (record { name = h.1.name; uses = h.1.uses }, h.1.implements, h.1.fields))

interface_keeps : Keeps g.«interface» IsSoundKind
unfolding g.«interface»
interface_keeps = map_keeps (seq_keeps (any (token WordInterface)) like_keeps) (λ p h d. (record { name = h.1.name; uses = h.1.uses }, h.1.implements, h.1.fields))

union_keeps : Keeps g.union_type IsSoundKind
unfolding g.union_type
union_keeps = map_keeps (seq_keeps (any (token WordUnion)) (seq_keeps key_keeps (seq_keeps uses_keep members_keep))) (λ p h d. (record { name = h.1.0; uses = h.1.1.0 }, h.1.1.1))

enum_keeps : Keeps g.enum_type IsSoundKind
unfolding g.enum_type
enum_keeps =
    map_keeps (seq_keeps (any (token WordEnum)) (seq_keeps key_keeps (seq_keeps uses_keep (body_keeps g.enum_value (λ v. IsSoundValue (enum_value_of v)) value_item_keeps))))
    (λ p h d. (record { name = h.1.0; uses = h.1.1.0 }, all_made enum_value_of IsSoundValue p.1.1.1 h.1.1.1))

input_object_keeps : Keeps g.input IsSoundKind
unfolding g.input
input_object_keeps =
    map_keeps (seq_keeps (any (token WordInput)) (seq_keeps key_keeps (seq_keeps uses_keep (body_keeps g.input_value (λ i. IsSoundInput (input_of i)) input_keeps))))
    (λ p h d. (record { name = h.1.0; uses = h.1.1.0 }, all_made input_of IsSoundInput p.1.1.1 h.1.1.1))

directive_keeps : Keeps g.directive IsSoundKind
unfolding g.directive
directive_keeps =
    map_keeps (seq_keeps (any (token WordDirective)) (seq_keeps (any (token AtSign)) (seq_keeps key_keeps (seq_keeps (inputs_keep g.input_value (λ i. IsSoundInput (input_of i)) input_keeps)
    (seq_keeps (any (opt (token WordRepeatable))) (seq_keeps (any (token WordOn)) (joined_keeps Pipe g.location IsLocation location_keeps)))))))
    (λ p h d. record { name = h.1.1.0; args = all_made input_of IsSoundInput p.1.1.1.0 h.1.1.1.0; locations = h.1.1.1.1.1.1.0; has = h.1.1.1.1.1.1.1 })

kind_keeps : Keeps g.kind IsSoundKind
unfolding g.kind g.type_kind
kind_keeps = alt_keeps block_keeps (alt_keeps scalar_keeps (alt_keeps object_keeps (alt_keeps interface_keeps (alt_keeps union_keeps (alt_keeps enum_keeps (alt_keeps input_object_keeps directive_keeps))))))

abbrev IsSoundWritten : WrittenDefinition → Type 0
IsSoundWritten x = IsSoundDefinition (definition_of x)

definition_keeps : Keeps g.definition IsSoundWritten
unfolding g.definition g.described_definition g.extension
definition_keeps = alt_keeps (refused_keeps (only WordExtend)) (map_keeps (seq_keeps (any g.description) kind_keeps) (λ p h. h.1 p.0))

written_keep : Keeps g.document (AllByRecursion IsSoundWritten)
unfolding g.document
written_keep = some_keeps definition_keeps

-- the definitions of a text are sound
pub tree_sound : (tree : List WrittenDefinition) (text : List ℕ) → SpelledBy tree text → AreSound (map definition_of tree)
tree_sound tree text s = all_made definition_of IsSoundDefinition tree (document_keeps written_keep tree text s)

-- and so are those of the document of a text
pub document_sound : (d : Document) (text : List ℕ) → Spells d text → AreSound d.definitions
document_sound d text s = subst (λ (e : Document). AreSound e.definitions) (sym s.stands) (tree_sound s.tree text s.spelled)
