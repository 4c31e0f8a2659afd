-- The names that each shown type implements in a registry are those that the document says.
use Rattle.std.proofs.Common.{◌≡◌, false, List, [], ◌∷◌, map, refl, ap, ap₂, ◌∙◌, Some, None}
use Rattle.std.specs.Option.{option_map_or}
use Rattle.std.specs.List.{AllByRecursion, IsDistinct}
use Rattle.std.specs.Str.{bytes_eq}
use Rattle.std.specs.Cmp.Lexicographic.{nat_list_eq_equiv}
use Rattle.std.proofs.lemmas.Map.Keys.{IsDistinct-head, IsDistinct-tail}
use Rattle.std.proofs.lemmas.Slice.Eq.{bytes_eq-Decides}
use Rattle.gql_text.specs.declared.document.Document.{Document}
use Rattle.gql_registry_meta.specs.Parts.{Text, at_text, Meta, name_of}
use Rattle.gql_registry.specs.Registry.{Contents, implements_listed}
use Rattle.gql_dynamic.specs.SchemaTypes.{TypeParts, type_name, interfaces}
use Rattle.gql_check_rules.specs.Rules.{first_fault}
use Rattle.gql_sdl_view.specs.View.{shown_types}
use Rattle.gql_publish_document.specs.Clean.{IsClean}
use Rattle.gql_publish_document.specs.Document.{document_types, document_schema, ordered_types, entry_of}
use Rattle.gql_publish_document.specs.Standing.{StandsFor, registered}
use Rattle.gql_publish_shown.proofs.Entries.{here, further, all_arranged}
use Rattle.gql_publish_shown.proofs.Shown.{name_registered, shown_same}

-- each of these types stands under its name
abbrev AreUnder : List (Text × TypeParts) → List TypeParts → Type 0
AreUnder es ts = AllByRecursion (λ t. at_text (type_name t) es ≡ Some t) ts

under_later : (x : TypeParts) (es : List (Text × TypeParts)) (ts : List TypeParts) → AllByRecursion (λ n. bytes_eq (type_name x) n ≡ false) (map type_name ts) → AreUnder es ts → AreUnder (entry_of x ∷ es) ts
under_later x es [] apart all = tt
under_later x es (t ∷ ts) apart all = (
  further (type_name t) (entry_of x) es (nat_list_eq_equiv.symm (type_name t) (type_name x) ∙ apart.0) ∙ all.0,
  under_later x es ts apart.1 all.1,
)

under_own : (ts : List TypeParts) → IsDistinct bytes_eq (map type_name ts) → AreUnder (map entry_of ts) ts
under_own [] distinct = tt
under_own (t ∷ ts) distinct = (
  here (type_name t) (entry_of t) (map entry_of ts) ((bytes_eq-Decides (type_name t) (type_name t)).1 refl),
  under_later t (map entry_of ts) ts (IsDistinct-head bytes_eq (type_name t) (map type_name ts) distinct) (under_own ts (IsDistinct-tail bytes_eq (type_name t) (map type_name ts) distinct)),
)

listed_same : (d : Document) (contents : Contents) → StandsFor d contents → (ts : List TypeParts) → AreUnder (map entry_of (document_types d)) ts
    → map (λ type. implements_listed (name_of type) contents.implements) (map (registered d) ts) ≡ map interfaces ts
listed_same d contents stands [] all = refl
listed_same d contents stands (t ∷ ts) all =
    let first : implements_listed (name_of (registered d t)) contents.implements ≡ interfaces t =
    ap (λ n. implements_listed n contents.implements) (name_registered d t) ∙ stands.implements (type_name t) ∙ ap (λ o. option_map_or interfaces o []) all.0 in
    ap₂ (λ (names : List Text) (l : List (List Text)). names ∷ l) first (listed_same d contents stands ts all.1)

-- The names that the types of the registry's view implement, type by type, are those of the document.
pub implements_same : (d : Document) (contents : Contents) → IsClean d → first_fault (document_schema d) ≡ None → StandsFor d contents
    → map (λ type. implements_listed (name_of type) contents.implements) (shown_types contents) ≡ map interfaces (ordered_types d)
implements_same d contents clean kept stands =
    ap (map (λ (type : Meta). implements_listed (name_of type) contents.implements)) (shown_same d contents clean kept stands)
    ∙ listed_same d contents stands (ordered_types d)
    (all_arranged (λ t. at_text (type_name t) (map entry_of (document_types d)) ≡ Some t) type_name (document_types d) (under_own (document_types d) clean.types))
