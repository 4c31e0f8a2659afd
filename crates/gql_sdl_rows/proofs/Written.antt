-- Where the word `implements` is written, so is a name.
use Rattle.std.proofs.Common.{List, Option, Some, None}
use Rattle.gql_grammar.specs.Form.{many}
use Rattle.gql_text_syntax.specs.Documents.{SpelledBy}
use Rattle.gql_text_syntax.specs.Grammar as g
use Rattle.gql_text_syntax.specs.Sorts.{only, token}
use Rattle.gql_text_syntax.specs.Values.{key}
use Rattle.gql_text_syntax.specs.declared.sort.Sort.TheVariants.{Ampersand, WordExtend, WordImplements, WordInterface, WordType}
use Rattle.gql_text_syntax.specs.declared.syntax.Implements.{Implements}
use Rattle.gql_text_syntax.specs.declared.syntax.WrittenDefinition.{WrittenDefinition}
use Rattle.gql_registry_meta.specs.Parts.{Text}
use Rattle.gql_sdl_readback.proofs.Texts.{Keeps}
use Rattle.gql_sdl_readback.proofs.Keeps.{any, refused_keeps, seq_keeps, map_keeps, alt_keeps, opt_keeps, AllIn, some_keeps, document_keeps}
use Rattle.gql_sdl_rows.proofs.FaultlessDocuments.{HaveWritten}
use Rattle.gql_sdl_rows.proofs.FaultlessParts.{AreWritten, HasWritten}
use Rattle.gql_sdl_rows.proofs.Kept.{IsKeyed, joined_keeps}
use Rattle.gql_sdl_rows.proofs.KeptValues.{key_keeps}
use Rattle.gql_sdl_rows.proofs.Parts.{HasItem}

implements_keeps : Keeps g.implements (λ i. HasItem i.names)
unfolding g.implements
implements_keeps = map_keeps (seq_keeps (any (token WordImplements)) (joined_keeps Ampersand key IsKeyed key_keeps)) (λ p h. h.1.1)

written : (o : Option Implements) → AllIn (λ i. HasItem i.names) o → AreWritten o
written None h = tt
written (Some i) h = h

like_keeps : Keeps g.object_like (λ x. AreWritten x.implements)
unfolding g.object_like
like_keeps = map_keeps (seq_keeps (any key) (seq_keeps (opt_keeps implements_keeps) (seq_keeps (any (many g.directive_use)) (any (g.body g.field))))) (λ p h. written p.1.0 h.1.0)

object_keeps : Keeps g.object HasWritten
unfolding g.object
object_keeps = map_keeps (seq_keeps (any (token WordType)) like_keeps) (λ p h. h.1)

interface_keeps : Keeps g.«interface» HasWritten
unfolding g.«interface»
interface_keeps = map_keeps (seq_keeps (any (token WordInterface)) like_keeps) (λ p h. h.1)

block_keeps : Keeps g.schema_block HasWritten
unfolding g.schema_block
block_keeps = map_keeps (any _) (λ p h. tt)

scalar_keeps : Keeps g.scalar HasWritten
unfolding g.scalar
scalar_keeps = map_keeps (any _) (λ p h. tt)

union_keeps : Keeps g.union_type HasWritten
unfolding g.union_type
union_keeps = map_keeps (any _) (λ p h. tt)

enum_keeps : Keeps g.enum_type HasWritten
unfolding g.enum_type
enum_keeps = map_keeps (any _) (λ p h. tt)

input_keeps : Keeps g.input HasWritten
unfolding g.input
input_keeps = map_keeps (any _) (λ p h. tt)

directive_keeps : Keeps g.directive HasWritten
unfolding g.directive
directive_keeps = map_keeps (any _) (λ p h. tt)

kind_keeps : Keeps g.kind HasWritten
unfolding g.kind g.type_kind
kind_keeps = alt_keeps block_keeps (alt_keeps scalar_keeps (alt_keeps object_keeps (alt_keeps interface_keeps (alt_keeps union_keeps (alt_keeps enum_keeps (alt_keeps input_keeps directive_keeps))))))

definition_keeps : Keeps g.definition (λ d. HasWritten d.kind)
unfolding g.definition g.described_definition g.extension
definition_keeps = alt_keeps (refused_keeps (only WordExtend)) (map_keeps (seq_keeps (any g.description) kind_keeps) (λ p h. h.1))

written_keep : Keeps g.document HaveWritten
unfolding g.document
written_keep = some_keeps definition_keeps

-- the definitions of a text
pub tree_written : (tree : List WrittenDefinition) (text : Text) → SpelledBy tree text → HaveWritten tree
tree_written tree text s = document_keeps written_keep tree text s
