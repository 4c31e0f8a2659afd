-- What the answers of the writer of canonical texts say, and what it has written.
use Rattle.std.specs.Prelude.{◌≡◌, List, Option, Result, Ok, Err, fold, map, string_bytes}
use Rattle.std.specs.declared.string.String.{String}
use Rattle.std.specs.declared.alloc.Global.{Global}
use Rattle.gql_text.specs.declared.document.Document.{Document}
use Rattle.gql_registry_meta.specs.Parts.{Text, Directive}
use Rattle.gql_registry.specs.Additions.{all_made, directive, system_steps}
use Rattle.gql_registry.specs.Registry.{empty}
use Rattle.gql_dynamic.specs.SchemaTypes.{TypeParts, interfaces, type_meta}
use Rattle.gql_sdl.specs.Writing.{Written, with_type}
use Rattle.gql_sdl_view.specs.Options.{Options}
use Rattle.gql_publish_document.specs.Published.{canonical_text, IsReadBack, TellsView}
use Rattle.gql_publish_document.specs.Verdict.{Verdict}
use Rattle.gql_publish_load.specs.declared.error.PublishError.{PublishError}
use Rattle.gql_publish_load.specs.Errors.{Refuses}

-- the types more, each with what is registered for it and the names that it implements
abbrev pub with_types : (subscription : Option Text) → Written → List TypeParts → Written
with_types subscription written types = fold (λ so_far type. with_type subscription so_far (interfaces type) (type_meta type)) written types

-- the definitions of directives that a schema has with these, each under its name and in name order
abbrev pub defined : List Directive → List (Text × Directive)
defined own = (all_made (all_made empty system_steps) (map directive own)).directives

-- The text is the canonical one of the document. It is read again as a document with this view, and tells this view.
pub record IsCanonical (o : Options) (d : Document) (text : Text) : Type 0 where
  pub is : text ≡ canonical_text o d
  pub read_back : IsReadBack o d
  pub one_view : TellsView o d

-- The answer is what the verdict says, unless memory runs out: the canonical text of the document, or the refusal.
abbrev pub AnswersText : Options → Verdict → Result (String Global) PublishError → Type 0
AnswersText o verdict (Ok text) = (d : Document) × (verdict ≡ Ok d) × IsCanonical o d (string_bytes text)
AnswersText o verdict (Err error) = Refuses (λ refusal. verdict ≡ Err refusal) error
