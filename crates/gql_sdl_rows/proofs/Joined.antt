-- Names with a sign between them: implemented names, members of a union, and locations of a directive.
use Rattle.std.proofs.Common.{◌≡◌, ℕ, true, List, [], ◌∷◌, ◌++◌, map, flat_map, codes, refl, sym, ap, ap₂, subst, ◌∙◌, Option, Some, None}
use Rattle.std.specs.List.{AllByRecursion, AllZip, join_by}
use Rattle.std.proofs.lemmas.List.Folds.{flat_map-map}
use Rattle.gql_grammar.specs.Form.{Form, among, opt}
use Rattle.gql_text_lexer.specs.Bytes.{is_punctuator}
use Rattle.gql_text_lexer.specs.Forms.{IsName}
use Rattle.gql_text_syntax.specs.Grammar as g
use Rattle.gql_text_syntax.specs.Reads.{or_none}
use Rattle.gql_text_syntax.specs.Sorts.{code, only, token, punctuators, sort_in}
use Rattle.gql_text_syntax.specs.Values.{key}
use Rattle.gql_text_syntax.specs.declared.sort.Sort.{Sort}
use Rattle.gql_text_syntax.specs.declared.sort.Sort.TheVariants.{Ampersand, CloseBrace, Location, Pipe, WordImplements}
use Rattle.gql_text_syntax.specs.declared.syntax.Implements.{Implements}
use Rattle.gql_text_syntax.specs.declared.syntax.PlacedName.{PlacedName}
use Rattle.gql_text.specs.DocumentOf.{bare_names_of, implements_of}
use Rattle.gql_registry_meta.specs.Parts.{Text}
use Rattle.gql_registry_meta.specs.Locations.{location_text}
use Rattle.gql_registry_meta.specs.declared.directive_location.DirectiveLocation.{DirectiveLocation}
use Rattle.gql_registry_meta.specs.declared.directive_location.DirectiveLocation.TheVariants as at
use Rattle.gql_sdl_readback.proofs.Texts.{Says}
use Rattle.gql_sdl_readback.proofs.Says.{blank, word_says, word_then, sign_then, joined, nothing_then, absent, present, IsThere, mapped, weaken, many_says, SaysEach}
use Rattle.gql_sdl_view.specs.Spelling.{implements_text, members_text}
use Rattle.gql_sdl_rows.proofs.Ends.{EndsName}
use Rattle.gql_sdl_rows.proofs.Parts.{HasItem, IsLocation}
use Rattle.gql_sdl_rows.proofs.Values.{key_says}

-- a sign between blanks
abbrev between : ℕ → Text
between b = 32 ∷ b ∷ 32 ∷ []

-- the punctuator of this byte has this sort
record IsSign (b : ℕ) (sign : Sort) : Type 0 where
  punctuator : is_punctuator b ≡ true
  sorted : sort_in punctuators (b ∷ []) (code CloseBrace) ≡ code sign
  alone : among (code sign) (only sign) ≡ true

ampersand : IsSign 38 Ampersand
ampersand = record { punctuator = refl; sorted = refl; alone = refl }

pipe : IsSign 124 Pipe
pipe = record { punctuator = refl; sorted = refl; alone = refl }

-- items that are read from these texts
module _ {A : Type 0} (item : Form A) (of : A → Text) (IsSound : Text → Type 0) (law : (name rest : Text) → IsSound name → EndsName rest → Says item (λ x. of x ≡ name) name rest) (b : ℕ) (sign : Sort) (is : IsSign b sign) where
  next_says : (name rest : Text) → IsSound name → EndsName rest → Says (g.next sign item) (λ x. of x ≡ name) (between b ++ name) rest
  unfolding g.next
  next_says name rest n k = blank refl (mapped (sign_then is.punctuator is.sorted is.alone (blank refl (law name rest n k))) (λ p h. h))

  all_next : (names : List Text) → AllByRecursion IsSound names → SaysEach (g.next sign item) (λ name x. of x ≡ name) (λ n. between b ++ n) EndsName names
  all_next [] a = tt
  all_next (n ∷ names) a = (λ rest k. next_says n rest a.0 k, all_next names a.1)

  names_are : (names : List Text) (xs : List A) → AllZip (λ name x. of x ≡ name) names xs → map of xs ≡ names
  names_are [] [] h = refl
  names_are [] (x ∷ xs) h = absurd h
  names_are (n ∷ names) [] h = absurd h
  names_are (n ∷ names) (x ∷ xs) h = ap₂ (λ (y : Text) (ys : List Text). y ∷ ys) h.0 (names_are names xs h.1)

  -- sign? Item (sign Item)*, without the sign in front
  names_say : (name : Text) (names : List Text) (rest : Text) → AllByRecursion IsSound (name ∷ names) → EndsName rest
      → Says (g.joined sign item) (λ xs. map of xs ≡ name ∷ names) (join_by (λ n. n) (between b) (name ∷ names)) rest
  unfolding g.joined
  names_say name names rest a k =
      let more : Text = flat_map (λ (n : Text). between b ++ n) names in
      mapped (nothing_then (absent (token sign) _) (joined name more rest (law name (more ++ rest) a.0 (ends names))
      (many_says (g.next sign item) (λ name x. of x ≡ name) (λ n. between b ++ n) EndsName (λ n r. refl) names rest (all_next names a.1) k)))
      (λ p h. ap₂ (λ (y : Text) (ys : List Text). y ∷ ys) h.1.0 (names_are names p.1.1 h.1.1))
    where
      ends : (names : List Text) → EndsName (flat_map (λ (n : Text). between b ++ n) names ++ rest)
      ends [] = k
      ends (n ∷ names) = refl

-- ---- implemented names

-- "implements" Name ("&" Name)*
implementing : (name : Text) (names : List Text) (rest : Text) → AllByRecursion IsName (name ∷ names) → EndsName rest
    → Says g.implements (λ i. bare_names_of i.names ≡ name ∷ names) (codes "implements " ++ join_by (λ n. n) (codes " & ") (name ∷ names)) rest
unfolding g.implements
implementing name names rest a k =
    mapped (word_then (only WordImplements) (codes "implements") (codes " " ++ join_by (λ n. n) (codes " & ") (name ∷ names)) (refl, refl) refl refl
    (blank refl (names_say key (λ (p : PlacedName). p.name) IsName key_says 38 Ampersand ampersand name names rest a k))) (λ p h. h.1)

pub implements_say : (names : List Text) (rest : Text) → AllByRecursion IsName names → EndsName rest → Says (opt g.implements) (λ o. implements_of o ≡ names) (implements_text names) rest
implements_say [] rest a k = weaken _ (absent g.implements rest) (λ o h. rw h refl)
implements_say (name ∷ names) rest a k = blank refl (weaken _ (present (implementing name names rest a k)) (λ o h. by_option o h))
  where
    by_option : (o : Option Implements) → IsThere (λ i. bare_names_of i.names ≡ name ∷ names) o → implements_of o ≡ name ∷ names
    by_option None h = absurd h
    by_option (Some i) h = h

-- ---- members of a union

-- "=" Name ("|" Name)*
members_given : (name : Text) (names : List Text) (rest : Text) → AllByRecursion IsName (name ∷ names) → EndsName rest
    → Says g.members_given (λ ps. bare_names_of ps ≡ name ∷ names) (codes "= " ++ join_by (λ n. n) (codes " | ") (name ∷ names)) rest
unfolding g.members_given
members_given name names rest a k = mapped (sign_then refl refl refl (blank refl (names_say key (λ (p : PlacedName). p.name) IsName key_says 124 Pipe pipe name names rest a k))) (λ p h. h)

pub members_say : (names : List Text) (rest : Text) → AllByRecursion IsName names → EndsName rest → Says g.members (λ ps. bare_names_of ps ≡ names) (members_text names) rest
unfolding g.members
members_say [] rest a k = mapped (absent g.members_given rest) (λ o h. rw h refl)
members_say (name ∷ names) rest a k = blank refl (mapped (present (members_given name names rest a k)) (λ o h. by_option o h))
  where
    by_option : (o : Option (List PlacedName)) → IsThere (λ ps. bare_names_of ps ≡ name ∷ names) o → bare_names_of (or_none o) ≡ name ∷ names
    by_option None h = absurd h
    by_option (Some ps) h = h

-- ---- locations

location_says : (name rest : Text) → IsLocation name → EndsName rest → Says g.location (λ text. text ≡ name) name rest
unfolding g.location
location_says name rest i k = mapped (word_says (only Location) name rest i.0 i.1 k) (λ t h. h.0)

-- the words, one after the other
locations_are : (locations : List DirectiveLocation) → join_by location_text (codes " | ") locations ≡ join_by (λ (n : Text). n) (codes " | ") (map location_text locations)
locations_are [] = refl
locations_are (l ∷ ls) = ap (λ (t : Text). location_text l ++ t) (sym (flat_map-map (λ (n : Text). codes " | " ++ n) location_text ls))

map_same : (texts : List Text) → map (λ (t : Text). t) texts ≡ texts
map_same [] = refl
map_same (t ∷ texts) = ap (λ (l : List Text). t ∷ l) (map_same texts)

-- Location ("|" Location)*
pub locations_say : (locations : List DirectiveLocation) (names : List Text) (rest : Text) → map location_text locations ≡ names → HasItem names → AllByRecursion IsLocation names → EndsName rest
    → Says (g.joined Pipe g.location) (λ texts. texts ≡ names) (join_by location_text (codes " | ") locations) rest
locations_say locations [] rest e has a k = absurd has
locations_say locations (name ∷ names) rest e has a k =
    subst (λ (t : Text). Says (g.joined Pipe g.location) (λ texts. texts ≡ name ∷ names) t rest) (sym (locations_are locations ∙ ap (join_by (λ (n : Text). n) (codes " | ")) e))
    (weaken _ (names_say g.location (λ (t : Text). t) IsLocation location_says 124 Pipe pipe name names rest a k) (λ texts h. sym (map_same texts) ∙ h))

-- each location has the name of one
pub location_is : (l : DirectiveLocation) → IsLocation (location_text l)
location_is at.Query = ((refl, refl), refl)
location_is at.Mutation = ((refl, refl), refl)
location_is at.Subscription = ((refl, refl), refl)
location_is at.Field = ((refl, refl), refl)
location_is at.FragmentDefinition = ((refl, refl), refl)
location_is at.FragmentSpread = ((refl, refl), refl)
location_is at.InlineFragment = ((refl, refl), refl)
location_is at.VariableDefinition = ((refl, refl), refl)
location_is at.Schema = ((refl, refl), refl)
location_is at.Scalar = ((refl, refl), refl)
location_is at.Object = ((refl, refl), refl)
location_is at.FieldDefinition = ((refl, refl), refl)
location_is at.ArgumentDefinition = ((refl, refl), refl)
location_is at.Interface = ((refl, refl), refl)
location_is at.Union = ((refl, refl), refl)
location_is at.Enum = ((refl, refl), refl)
location_is at.EnumValue = ((refl, refl), refl)
location_is at.InputObject = ((refl, refl), refl)
location_is at.InputFieldDefinition = ((refl, refl), refl)
