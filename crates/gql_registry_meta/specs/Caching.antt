-- Hints for caches.
use Rattle.std.specs.Prelude.{◌≡◌, ℤ, pos, negsuc, Bool, true, false, ◌&&◌, ◌||◌, if◌then◌else◌, int_lt, List, [], ◌∷◌, ◌++◌, Option, Some, None, codes}
use Rattle.std.specs.Ordering.{int_eq}
use Rattle.std.specs.List.{join_by}
use Rattle.std.specs.Fmt.{signed_decimal}
use Rattle.gql_registry_meta.specs.Parts.{Text}
use Rattle.gql_registry_meta.specs.declared.cache_control.CacheControl.{CacheControl}

-- the hint that says nothing
abbrev pub no_hint : CacheControl
no_hint = record { public = true; max_age = pos 0 }

-- -1, the age of an answer that is not to be kept
abbrev pub no_store : ℤ
no_store = negsuc 0

-- -1 where one of the ages is, the other age where one is 0, and else the smaller one
abbrev pub merged_age : ℤ → ℤ → ℤ
merged_age age other =
    if int_eq age no_store || int_eq other no_store then no_store
    else if int_eq age (pos 0) then other
    else if int_eq other (pos 0) then age
    else if int_lt age other then age
    else other

-- the hint for an answer that both hints speak of
abbrev pub merge : CacheControl → CacheControl → CacheControl
merge hint other = record { public = hint.public && other.public; max_age = merged_age hint.max_age other.max_age }

-- what a hint says of its age
abbrev pub age_texts : ℤ → List Text
age_texts age =
    if int_lt (pos 0) age then (codes "max-age=" ++ signed_decimal age) ∷ []
    else if int_eq age no_store then codes "no-cache" ∷ []
    else []

-- what it says of who may keep the answer
abbrev pub holder_texts : Bool → List Text
holder_texts true = []
holder_texts false = codes "private" ∷ []

-- the texts with a comma and a space between them, if there are any
abbrev pub comma_joined : List Text → Option Text
comma_joined [] = None
comma_joined (text ∷ texts) = Some (join_by (λ t. t) (codes ", ") (text ∷ texts))

-- the value of a `Cache-Control` header that says the hint, where there is one
abbrev pub hint_text : CacheControl → Option Text
hint_text hint = comma_joined (age_texts hint.max_age ++ holder_texts hint.public)

-- ---- laws

-- the order of two hints makes no difference
abbrev pub IsCommutative : (CacheControl → CacheControl → CacheControl) → Type 0
IsCommutative op = (a b : CacheControl) → op a b ≡ op b a

-- of three hints, it makes no difference which two come first together
abbrev pub IsAssociative : (CacheControl → CacheControl → CacheControl) → Type 0
IsAssociative op = (a b c : CacheControl) → op (op a b) c ≡ op a (op b c)

-- a hint with itself is that hint
abbrev pub IsIdempotent : (CacheControl → CacheControl → CacheControl) → Type 0
IsIdempotent op = (a : CacheControl) → op a a ≡ a

-- the unit changes no hint, on either side
abbrev pub HasUnit : (CacheControl → CacheControl → CacheControl) → CacheControl → Type 0
HasUnit op unit = (a : CacheControl) → (op unit a ≡ a) × (op a unit ≡ a)
