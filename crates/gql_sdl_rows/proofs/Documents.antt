-- The text of a view spells the document that the view shows.
use Rattle.std.proofs.Common.{◌≡◌, ℕ, List, [], ◌∷◌, ◌++◌, map, codes, refl, sym, ap₂, subst, append_assoc}
use Rattle.std.proofs.lemmas.List.{append-nil}
use Rattle.std.specs.List.{AllByRecursion, AllZip}
use Rattle.gql_grammar.specs.Form.{many}
use Rattle.gql_text_syntax.specs.Documents.{SpelledBy}
use Rattle.gql_text_syntax.specs.Grammar as g
use Rattle.gql_text_syntax.specs.declared.syntax.WrittenDefinition.{WrittenDefinition}
use Rattle.gql_text.specs.DocumentOf.{definition_of}
use Rattle.gql_text.specs.declared.document.Definition.{Definition}
use Rattle.gql_text.specs.declared.document.Definition.TheVariants as definition
use Rattle.gql_text.specs.declared.document.DirectiveDef.{DirectiveDef}
use Rattle.gql_text.specs.declared.document.RootLine.{RootLine}
use Rattle.gql_registry_meta.specs.Parts.{Text, Directive, Meta}
use Rattle.gql_sdl_readback.proofs.Texts.{Says}
use Rattle.gql_sdl_readback.proofs.Says.{weaken, none, IsCons, cons_says, some_says}
use Rattle.gql_sdl_readback.proofs.Lists.{AreBlank}
use Rattle.gql_sdl_readback.proofs.Whole.{spelled_by}
use Rattle.gql_sdl_view.specs.Options.{Layout}
use Rattle.gql_sdl_view.specs.Spelling.{type_text, types_text, directive_text, directives_text, schema_text, spelled}
use Rattle.gql_sdl_view.specs.View.{View}
use Rattle.gql_sdl_rows.specs.Bare.{bare_line, bare_definition}
use Rattle.gql_sdl_rows.specs.Shown.{ShowsTypes, ShowsDirective, directive_definitions, block_lines, ShowsDocument}
use Rattle.gql_sdl_rows.proofs.Definitions.{IsDefinition, type_says, directive_line_says, roots_say}
use Rattle.gql_sdl_rows.proofs.Parts.{IsSoundDefinition}

-- the definitions that were read are these, apart from places
abbrev pub AreDefinitions : List Definition → List WrittenDefinition → Type 0
AreDefinitions cs xs = AllZip IsDefinition cs xs

-- all definitions are sound
abbrev pub AreSound : List Definition → Type 0
AreSound cs = AllByRecursion IsSoundDefinition cs

-- definitions before others
abbrev SaysDefinitions : List Definition → Text → Text → Type 0
SaysDefinitions cs text rest = Says (many g.definition) (AreDefinitions cs) text rest

zipped : (c : Definition) (cs : List Definition) (xs : List WrittenDefinition) → IsCons (IsDefinition c) (AreDefinitions cs) xs → AreDefinitions (c ∷ cs) xs
zipped c cs [] h = absurd h
zipped c cs (x ∷ xs) h = h

one_more : (c : Definition) (cs : List Definition) (text more rest : Text) → Says g.definition (IsDefinition c) text (more ++ rest) → SaysDefinitions cs more rest → SaysDefinitions (c ∷ cs) (text ++ more) rest
one_more c cs text more rest s r = weaken _ (cons_says text more rest s r) (λ xs h. zipped c cs xs h)

module _ (layout : Layout) (a : AreBlank layout.indent) where
  types_then : (types : List Meta) (lists : List (List Text)) (cs ds : List Definition) (more rest : Text) → ShowsTypes types lists cs → AreSound cs → SaysDefinitions ds more rest
      → SaysDefinitions (cs ++ ds) (types_text layout types lists ++ more) rest
  types_then [] lists [] ds more rest s i r = r
  types_then [] lists (c ∷ cs) ds more rest s i r = absurd s
  types_then (t ∷ ts) [] [] ds more rest s i r = absurd s
  types_then (t ∷ ts) (names ∷ lists) [] ds more rest s i r = absurd s
  types_then (t ∷ ts) [] (c ∷ cs) ds more rest s i r =
      subst (λ (x : Text). SaysDefinitions (c ∷ (cs ++ ds)) x rest) (sym (append_assoc (type_text layout [] t) (types_text layout ts []) more))
      (one_more c (cs ++ ds) (type_text layout [] t) (types_text layout ts [] ++ more) rest (type_says layout a [] t c _ s.0 i.0) (types_then ts [] cs ds more rest s.1 i.1 r))
  types_then (t ∷ ts) (names ∷ lists) (c ∷ cs) ds more rest s i r =
      subst (λ (x : Text). SaysDefinitions (c ∷ (cs ++ ds)) x rest) (sym (append_assoc (type_text layout names t) (types_text layout ts lists) more))
      (one_more c (cs ++ ds) (type_text layout names t) (types_text layout ts lists ++ more) rest (type_says layout a names t c _ s.0 i.0) (types_then ts lists cs ds more rest s.1 i.1 r))

  directives_then : (directives : List Directive) (cs : List DirectiveDef) (ds : List Definition) (more rest : Text) → AllZip ShowsDirective directives cs → AreSound (directive_definitions cs) → SaysDefinitions ds more rest
      → SaysDefinitions (directive_definitions cs ++ ds) (directives_text layout directives ++ more) rest
  directives_then [] [] ds more rest z i r = r
  directives_then [] (c ∷ cs) ds more rest z i r = absurd z
  directives_then (d ∷ directives) [] ds more rest z i r = absurd z
  directives_then (d ∷ directives) (c ∷ cs) ds more rest z i r =
      let line : Text = directive_text layout d ++ codes "\n" in
      subst (λ (x : Text). SaysDefinitions (definition.Directive c ∷ (directive_definitions cs ++ ds)) x rest) (sym (append_assoc line (directives_text layout directives) more))
      (one_more (definition.Directive c) (directive_definitions cs ++ ds) line (directives_text layout directives ++ more) rest (directive_line_says layout a d c _ z.0 i.0) (directives_then directives cs ds more rest z.1 i.1 r))

  block_alone : (view : View) (roots : List RootLine) (at : ℕ) (rest : Text) → map bare_line roots ≡ block_lines view → IsSoundDefinition (definition.SchemaBlock roots at)
      → SaysDefinitions (definition.SchemaBlock roots at ∷ []) (schema_text layout view.query view.mutation view.subscription) rest
  block_alone view roots at rest e i =
      let text : Text = schema_text layout view.query view.mutation view.subscription in
      subst (λ (x : Text). SaysDefinitions (definition.SchemaBlock roots at ∷ []) x rest) (append-nil text)
      (one_more (definition.SchemaBlock roots at) [] text [] rest (roots_say layout a view roots at rest e i) (weaken _ (none g.definition rest) no_more))
    where
      no_more : (xs : List WrittenDefinition) → xs ≡ [] → AreDefinitions [] xs
      no_more [] e = tt
      no_more (x ∷ xs) e = cc

sound_left : (cs ds : List Definition) → AreSound (cs ++ ds) → AreSound cs
sound_left [] ds i = tt
sound_left (c ∷ cs) ds i = (i.0, sound_left cs ds i.1)

sound_right : (cs ds : List Definition) → AreSound (cs ++ ds) → AreSound ds
sound_right [] ds i = i
sound_right (c ∷ cs) ds i = sound_right cs ds i.1

not_empty : (cs ds : List Definition) (c : Definition) → AreDefinitions (cs ++ (ds ++ c ∷ [])) [] → ⊥
not_empty [] [] c z = z
not_empty [] (d ∷ ds) c z = z
not_empty (x ∷ cs) ds c z = z

parts_say : (layout : Layout) → AreBlank layout.indent → (view : View) (cs : List Definition) (rest : Text) → ShowsDocument view cs → AreSound cs → Says g.document (AreDefinitions cs) (spelled layout view) rest
unfolding g.document
parts_say layout a view cs rest s i =
    let block : List Definition = definition.SchemaBlock s.roots s.at ∷ [] in
    let directives : List Definition = directive_definitions s.directives in
    let sound : AreSound (s.types ++ (directives ++ block)) = subst AreSound s.parts i in
    let later : AreSound (directives ++ block) = sound_right s.types (directives ++ block) sound in
    subst (λ (ds : List Definition). Says g.document (AreDefinitions ds) (spelled layout view) rest) (sym s.parts)
    (some_says g.definition (λ z. not_empty s.types directives (definition.SchemaBlock s.roots s.at) z)
    (types_then layout a view.types view.implements s.types (directives ++ block) (directives_text layout view.directives ++ schema_text layout view.query view.mutation view.subscription) rest s.shows_types (sound_left s.types (directives ++ block) sound)
    (directives_then layout a view.directives s.directives block (schema_text layout view.query view.mutation view.subscription) rest s.shows_directives (sound_left directives block later)
    (block_alone layout a view s.roots s.at rest s.shows_roots (sound_right directives block later).0))))

-- the trees whose definitions are these, apart from places, and whose schema blocks are plain
pub record IsTreeOf (cs : List Definition) (text : Text) : Type 0 where
  pub tree : List WrittenDefinition
  pub spelled : SpelledBy tree text
  pub definitions : AreDefinitions cs tree

-- Where a view shows sound definitions, its text spells a tree of these definitions, apart from places.
pub document_says : (layout : Layout) → AreBlank layout.indent → (view : View) (cs : List Definition) → ShowsDocument view cs → AreSound cs → IsTreeOf cs (spelled layout view)
document_says layout a view cs s i =
    let read = spelled_by (AreDefinitions cs) (spelled layout view) (parts_say layout a view cs [] s i) in
    record { tree = read.0; spelled = read.1; definitions = read.2 }

-- the same definitions, apart from places
pub definitions_same : (cs : List Definition) (tree : List WrittenDefinition) → AreDefinitions cs tree → map bare_definition (map definition_of tree) ≡ map bare_definition cs
definitions_same [] [] z = refl
definitions_same [] (x ∷ xs) z = absurd z
definitions_same (c ∷ cs) [] z = absurd z
definitions_same (c ∷ cs) (x ∷ xs) z = ap₂ (λ (d : Definition) (ds : List Definition). d ∷ ds) z.0.same (definitions_same cs xs z.1)
