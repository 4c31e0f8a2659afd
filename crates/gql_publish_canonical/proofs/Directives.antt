-- The directive definitions of the view of a document show those of its canonical form.
use Rattle.std.proofs.Common.{◌≡◌, Bool, true, List, [], ◌∷◌, ◌++◌, filter, map, codes, refl, sym, ap, ap₂, subst, ◌∙◌, rules}
use Rattle.std.proofs.lemmas.List.{map-append}
use Rattle.std.proofs.lemmas.Simd.{map-map}
use Rattle.std.specs.Prelude.{not}
use Rattle.std.specs.List.{AllByRecursion, AllZip, filter_map}
use Rattle.std.specs.Map.{values_of}
use Rattle.gql_text_lexer.specs.Quoting.{quote}
use Rattle.gql_text_values.specs.ConstValues.{value_text}
use Rattle.gql_text_values.specs.TypeRefs.{type_text}
use Rattle.gql_text_values.specs.declared.const_value.ConstValue.TheFolds.{the_lemmas as the_lemmas_of_values}
use Rattle.gql_text_values.specs.declared.const_value.ConstValue.TheVariants as values
use Rattle.gql_text_values.specs.declared.type_ref.TypeRef.TheFolds.{the_lemmas}
use Rattle.gql_text_values.specs.declared.type_ref.TypeRef.TheVariants as refs
use Rattle.gql_text.specs.declared.document.Definition.{Definition}
use Rattle.gql_text.specs.declared.document.Definition.TheVariants as definition
use Rattle.gql_text.specs.declared.document.DirectiveDef.{DirectiveDef}
use Rattle.gql_text.specs.declared.document.Document.{Document}
use Rattle.gql_text.specs.declared.document.InputDef.{InputDef}
use Rattle.gql_registry_meta.specs.Parts.{Text, Directive, is_among}
use Rattle.gql_parts.specs.Builders.{arguments_meta}
use Rattle.gql_registry.specs.System.{skip, include, deprecated, specified_by, one_of, system_directives}
use Rattle.gql_publish_document.specs.Document.{ordered_metas, ordered_directives, document_view}
use Rattle.gql_publish_document.specs.Members.{inputs_parts}
use Rattle.gql_publish_document.specs.Types.{directive_meta_of, directive_in}
use Rattle.gql_sdl_view.specs.Options.{Options}
use Rattle.gql_sdl_view.specs.Ordered.{arranged, changed}
use Rattle.gql_sdl_view.specs.View.{bare_argument, viewed_directive, is_needed}
use Rattle.gql_sdl_rows.specs.Shown.{ShowsArgument, ShowsDirective}
use Rattle.gql_sdl_rows.proofs.Parts.{IsLocation}
use Rattle.gql_publish_canonical.proofs.Canonical.{skip_definition, include_definition, deprecated_definition, specified_by_definition, one_of_definition, system_definitions, own_directives, is_missing, ordered_directive_definitions, canonical_argument, canonical_directive, canonical_directives}
use Rattle.gql_publish_canonical.proofs.Lists.{arranged_map, all_filter, zip_maps, filter_map_is}
use Rattle.gql_publish_canonical.proofs.Locations.{locations_are}

bool_text : type_text (refs.NonNull (refs.Named (codes "Boolean"))) ≡ codes "Boolean!"
bool_text = search (rules, the_lemmas)

string_text : type_text (refs.NonNull (refs.Named (codes "String"))) ≡ codes "String!"
string_text = search (rules, the_lemmas)

plain_text : type_text (refs.Named (codes "String")) ≡ codes "String"
plain_text = search (rules, the_lemmas)

quoted : (text : Text) → value_text (values.String text) ≡ quote text
quoted text = search (rules, the_lemmas_of_values)

reason_text : value_text (values.String (codes "No longer supported")) ≡ codes "\"No longer supported\""
reason_text = quoted (codes "No longer supported")

skip_is : directive_meta_of skip_definition ≡ skip
unfolding skip
skip_is = rw bool_text refl

include_is : directive_meta_of include_definition ≡ include
unfolding include
include_is = rw bool_text refl

deprecated_is : directive_meta_of deprecated_definition ≡ deprecated
unfolding deprecated
deprecated_is = rw (plain_text, reason_text) refl

specified_by_is : directive_meta_of specified_by_definition ≡ specified_by
unfolding specified_by
specified_by_is = rw string_text refl

one_of_is : directive_meta_of one_of_definition ≡ one_of
unfolding one_of
one_of_is = refl

pub system_are : map directive_meta_of system_definitions ≡ system_directives
system_are = rw (skip_is, include_is, deprecated_is, specified_by_is, one_of_is) refl

-- ---- the definitions of a document

own_are : (ds : List Definition) → filter_map directive_in ds ≡ map directive_meta_of (own_directives ds)
own_are [] = refl
own_are (definition.SchemaBlock roots at ∷ ds) = own_are ds
own_are (definition.Scalar head ∷ ds) = own_are ds
own_are (definition.Object head implements fields ∷ ds) = own_are ds
own_are (definition.Interface head implements fields ∷ ds) = own_are ds
own_are (definition.Union head members ∷ ds) = own_are ds
own_are (definition.Enum head values ∷ ds) = own_are ds
own_are (definition.Input head fields ∷ ds) = own_are ds
own_are (definition.Directive d ∷ ds) = ap (λ (l : List Directive). directive_meta_of d ∷ l) (own_are ds)

-- the directives that are not among these names
abbrev without : List Text → List Directive → List Directive
without names directives = filter (λ (system : Directive). not (is_among system.name names)) directives

added_are : (own : List DirectiveDef) → without (map (λ (d : Directive). d.name) (map directive_meta_of own)) system_directives ≡ map directive_meta_of (filter (is_missing own) system_definitions)
added_are own =
    ap₂ (λ (names : List Text) (system : List Directive). without names system) (map-map (λ (d : Directive). d.name) directive_meta_of own) (sym system_are)
    ∙ filter_map_is directive_meta_of (λ (system : Directive). not (is_among system.name (map (λ (d : DirectiveDef). d.name) own))) system_definitions

pub ordered_directives_are : (d : Document) → ordered_directives d ≡ map directive_meta_of (ordered_directive_definitions d.definitions)
ordered_directives_are d =
    let own : List DirectiveDef = own_directives d.definitions in
    let added : List DirectiveDef = filter (is_missing own) system_definitions in
    ap (λ (l : List Directive). arranged (λ (x : Directive). x.name) true (l ++ without (map (λ (x : Directive). x.name) l) system_directives)) (own_are d.definitions)
    ∙ ap (λ (l : List Directive). arranged (λ (x : Directive). x.name) true (map directive_meta_of own ++ l)) (added_are own)
    ∙ ap (arranged (λ (x : Directive). x.name) true) (sym (map-append directive_meta_of own added))
    ∙ arranged_map directive_meta_of (λ (x : Directive). x.name) true (own ++ added)

-- ---- what is shown

arguments_show : (is : List InputDef) → AllZip ShowsArgument (values_of (changed bare_argument (arguments_meta (inputs_parts is)))) (map canonical_argument is)
arguments_show [] = tt
arguments_show (i ∷ is) = (record { name = refl; description = refl; ty = refl; default = refl; uses = refl }, arguments_show is)

directive_shows : (d : DirectiveDef) → AllByRecursion IsLocation d.locations → ShowsDirective (viewed_directive (directive_meta_of d)) (canonical_directive d)
directive_shows d a = record { name = refl; description = refl; args = arguments_show d.args; repeatable = refl; locations = locations_are d.locations a }

-- a definition of a directive names locations
abbrev pub HasLocations : DirectiveDef → Type 0
HasLocations d = AllByRecursion IsLocation d.locations

pub directives_show : (o : Options) (d : Document) → AllByRecursion HasLocations (ordered_directive_definitions d.definitions) → AllZip ShowsDirective (document_view o d).directives (canonical_directives d)
directives_show o d a =
    let ordered : List DirectiveDef = ordered_directive_definitions d.definitions in
    let test : DirectiveDef → Bool = λ c. is_needed (ordered_metas d) (directive_meta_of c) in
    let zs : List DirectiveDef = filter test ordered in
    let shown : (document_view o d).directives ≡ map (λ (c : DirectiveDef). viewed_directive (directive_meta_of c)) zs =
    ap (λ (l : List Directive). map viewed_directive (filter (is_needed (ordered_metas d)) l)) (ordered_directives_are d)
    ∙ ap (map viewed_directive) (filter_map_is directive_meta_of (is_needed (ordered_metas d)) ordered)
    ∙ map-map viewed_directive directive_meta_of zs in
    subst (λ (l : List Directive). AllZip ShowsDirective l (canonical_directives d)) (sym shown)
    (zip_maps HasLocations ShowsDirective (λ c. viewed_directive (directive_meta_of c)) canonical_directive directive_shows zs (all_filter HasLocations test ordered a))
