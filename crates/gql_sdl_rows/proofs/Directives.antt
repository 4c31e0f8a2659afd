-- The text of a directive definition says it, after its description.
use Rattle.std.proofs.Common.{◌≡◌, Bool, true, false, List, [], ◌∷◌, ◌++◌, map, codes, refl, ap, ◌∙◌, Option, Some, None}
use Rattle.std.proofs.lemmas.Simd.{map-map}
use Rattle.std.specs.List.{AllZip, join_by}
use Rattle.std.specs.Option.{is_some}
use Rattle.gql_grammar.specs.Form.{opt, Terminal}
use Rattle.gql_text_syntax.specs.Grammar as g
use Rattle.gql_text_syntax.specs.Sorts.{name_sort, only, token}
use Rattle.gql_text_syntax.specs.declared.sort.Sort.TheVariants.{WordDirective, WordOn, WordRepeatable}
use Rattle.gql_text.specs.DocumentOf.{input_of}
use Rattle.gql_text.specs.declared.document.Definition.TheVariants as definition
use Rattle.gql_text.specs.declared.document.DirectiveDef.{DirectiveDef}
use Rattle.gql_text.specs.declared.document.InputDef.{InputDef}
use Rattle.gql_registry_meta.specs.Parts.{Text, InputValue}
use Rattle.gql_registry_meta.specs.Locations.{location_text}
use Rattle.gql_registry_meta.specs.declared.directive_location.DirectiveLocation.{DirectiveLocation}
use Rattle.gql_sdl_readback.proofs.Texts.{Says}
use Rattle.gql_sdl_readback.proofs.Says.{blank, word_says, word_then, sign_then, joined, absent, present, IsThere, mapped, weaken}
use Rattle.gql_sdl_view.specs.Spelling.{bare_arguments_text, repeatable_text}
use Rattle.gql_sdl_rows.specs.Bare.{bare_input, bare_directive}
use Rattle.gql_sdl_rows.specs.Shown.{ShowsArgument}
use Rattle.gql_sdl_rows.proofs.Ends.{EndsName}
use Rattle.gql_sdl_rows.proofs.Fields.{bare_arguments_say}
use Rattle.gql_sdl_rows.proofs.Joined.{locations_say}
use Rattle.gql_sdl_rows.proofs.TypeKinds.{IsKind}
use Rattle.gql_sdl_rows.proofs.Parts.{IsSoundDirective}
use Rattle.gql_sdl_rows.proofs.Values.{key_says}

-- "repeatable"?, where `on` follows
repeatable_says : (mark : Bool) (rest : Text) → Says (opt (token WordRepeatable)) (λ o. is_some o ≡ mark) (repeatable_text mark) (codes " on " ++ rest)
repeatable_says true rest = blank refl (weaken _ (present (word_says (only WordRepeatable) (codes "repeatable") (codes " on " ++ rest) (refl, refl) refl refl)) (λ o h. by_option o h))
  where
    by_option : (o : Option Terminal) → IsThere (λ t. (t.text ≡ codes "repeatable") × (t.sort ≡ name_sort (codes "repeatable"))) o → is_some o ≡ true
    by_option None h = absurd h
    by_option (Some t) h = refl
repeatable_says false rest = weaken _ (absent (token WordRepeatable) (codes " on " ++ rest)) (λ o h. rw h refl)

-- " repeatable on LOCATION | LOCATION"
abbrev places_text : List DirectiveLocation → Text
places_text locations = codes " on " ++ join_by location_text (codes " | ") locations

ends_mark : (mark : Bool) (more rest : Text) → EndsName ((repeatable_text mark ++ (codes " on " ++ more)) ++ rest)
ends_mark true more rest = refl
ends_mark false more rest = refl

ends_key : (values : List InputValue) (mark : Bool) (more rest : Text) → EndsName ((bare_arguments_text values ++ (repeatable_text mark ++ (codes " on " ++ more))) ++ rest)
ends_key [] mark more rest = ends_mark mark more rest
ends_key (v ∷ vs) mark more rest = refl

same_directive : (c : DirectiveDef) (name : Text) (description : Option Text) (args : List InputDef) (repeatable : Bool) (locations : List Text) → name ≡ c.name → description ≡ c.description → args ≡ (bare_directive c).args
    → repeatable ≡ c.repeatable → locations ≡ c.locations → record { name = name; description = description; args = args; repeatable = repeatable; locations = locations; at = 0 } ≡ bare_directive c
same_directive c name description args repeatable locations e f g h i = rw (e, f, g, h, i) refl

-- "directive" "@" Name Args? "repeatable"? "on" Location ("|" Location)*
pub directive_says : (values : List InputValue) (locations : List DirectiveLocation) (c : DirectiveDef) (rest : Text) → AllZip ShowsArgument values c.args → map location_text locations ≡ c.locations → IsSoundDirective c → EndsName rest
    → Says g.directive (IsKind c.description (definition.Directive c)) (codes "directive @" ++ (c.name ++ (bare_arguments_text values ++ (repeatable_text c.repeatable ++ places_text locations)))) rest
unfolding g.directive
directive_says values locations c rest z l s k =
    let places : Text = join_by location_text (codes " | ") locations in
    let mark : Text = repeatable_text c.repeatable ++ places_text locations in
    let args : Text = bare_arguments_text values in
    mapped (word_then (only WordDirective) (codes "directive") (codes " @" ++ (c.name ++ (args ++ mark))) (refl, refl) refl refl
    (blank refl (sign_then refl refl refl
    (joined c.name (args ++ mark) rest (key_says c.name _ s.name (ends_key values c.repeatable places rest))
    (joined args mark rest (bare_arguments_say values c.args _ z s.args)
    (joined (repeatable_text c.repeatable) (places_text locations) rest (repeatable_says c.repeatable (places ++ rest))
    (blank refl (word_then (only WordOn) (codes "on") (codes " " ++ places) (refl, refl) refl refl
    (blank refl (locations_say locations c.locations rest l s.has s.locations k))))))))))
    (λ p h d o. ap (λ (e : DirectiveDef). definition.Directive e) (same_directive c _ _ _ _ _ h.1.0 o (map-map bare_input input_of p.1.1.1.0 ∙ h.1.1.0) h.1.1.1.0 h.1.1.1.1.1))
