-- Names and the places of their types.
use Rattle.std.proofs.Common.{arith, ◌⊎◌, inl, inr, ◌≡◌, ◌<◌, ℕ, zero, suc, Bool, true, false, ◌||◌, cond, if◌then◌else◌, List, [], ◌∷◌, ◌++◌, length, get_or, fold, append_assoc, append-nil, refl, ap, sym, ◌∙◌, Option, Some, None}
use Rattle.std.proofs.lemmas.Bool.{true≢false}
use Rattle.std.proofs.lemmas.Slice.Eq.{bytes_eq-Decides}
use Rattle.std.specs.List.{AllByRecursion, IsDistinct, list_any}
use Rattle.indexmap.specs.IndexSet.{insert_key}
use Rattle.std.specs.Map.{keys_of, values_of}
use Rattle.std.specs.Option.{option_map}
use Rattle.std.specs.Str.{bytes_eq}
use Rattle.gql_registry_meta.specs.Parts.{Text, Meta, at_text}
use Rattle.gql_registry_closures.specs.Table.{place_of}

-- equal texts, by the test
pub same_text : (a b : Text) → bytes_eq a b ≡ true → a ≡ b
same_text a b e = (bytes_eq-Decides a b).0 e

pub text_same : (a b : Text) → a ≡ b → bytes_eq a b ≡ true
text_same a b e = (bytes_eq-Decides a b).1 e

some_same : {A : Type 0} (a b : A) → Some a ≡ Some b → a ≡ b
some_same a b e = cc e

none_some : {A : Type 0} (a : A) → None ≡ Some a → ⊥
none_some a e = cc e

-- what a place comes from
shifted_some : (r : Option ℕ) (x : ℕ) → option_map suc r ≡ Some x → (y : ℕ) × (r ≡ Some y) × (x ≡ suc y)
shifted_some None x e = absurd (none_some x e)
shifted_some (Some y) x e = (y, refl, sym (some_same (suc y) x e))

place_cases : (b : Bool) (r : Option ℕ) (x : ℕ) → (if b then Some 0 else option_map suc r) ≡ Some x → ((b ≡ true) × (x ≡ 0)) ⊎ ((b ≡ false) × ((y : ℕ) × (r ≡ Some y) × (x ≡ suc y)))
place_cases true r x e = inl (refl, sym (some_same 0 x e))
place_cases false r x e = inr (refl, shifted_some r x e)

-- the name at its place
pub place_get : (name : Text) (names : List Text) (x : ℕ) → place_of name names ≡ Some x → get_or names x [] ≡ name
place_get name [] x e = absurd (none_some x e)
place_get name (first ∷ names) x e = pick (place_get name names) (place_cases (bytes_eq name first) (place_of name names) x e)
  where
    pick : ((y : ℕ) → place_of name names ≡ Some y → get_or names y [] ≡ name) → ((bytes_eq name first ≡ true) × (x ≡ 0)) ⊎ ((bytes_eq name first ≡ false) × ((y : ℕ) × (place_of name names ≡ Some y) × (x ≡ suc y))) → get_or (first ∷ names) x [] ≡ name
    pick ih (inl p) = ap (λ k. get_or (first ∷ names) k []) p.1 ∙ sym (same_text name first p.0)
    pick ih (inr p) = ap (λ k. get_or (first ∷ names) k []) p.1.2 ∙ ih p.1.0 p.1.1

-- one place has one name
pub place_same : (a b : Text) (names : List Text) (x : ℕ) → place_of a names ≡ Some x → place_of b names ≡ Some x → a ≡ b
place_same a b names x p q = sym (place_get a names x p) ∙ place_get b names x q

pub place_within : (name : Text) (names : List Text) (x : ℕ) → place_of name names ≡ Some x → x < length names
place_within name [] x e = absurd (none_some x e)
place_within name (first ∷ names) x e = pick (place_within name names) (place_cases (bytes_eq name first) (place_of name names) x e)
  where
    pick : ((y : ℕ) → place_of name names ≡ Some y → y < length names) → ((bytes_eq name first ≡ true) × (x ≡ 0)) ⊎ ((bytes_eq name first ≡ false) × ((y : ℕ) × (place_of name names ≡ Some y) × (x ≡ suc y))) → x < suc (length names)
    pick ih (inl p) = omega (arith, p.1)
    pick ih (inr p) = omega (arith, p.1.2, ih p.1.0 p.1.1)

-- a name among distinct names has its own place
own-apart : (first : Text) (names : List Text) (x : ℕ) → x < length names → AllByRecursion (λ y. bytes_eq first y ≡ false) names → bytes_eq (get_or names x []) first ≡ true → ⊥
own-apart first [] x l h e = absurd (omega arith)
own-apart first (n ∷ names) zero l h e = true≢false (sym (text_same first n (sym (same_text n first e))) ∙ h.0)
own-apart first (n ∷ names) (suc x) l h e = own-apart first names x (omega arith) h.1 e

place-other : (b : Bool) (r : Option ℕ) (x : ℕ) → (b ≡ true → ⊥) → r ≡ Some x → (if b then Some 0 else option_map suc r) ≡ Some (suc x)
place-other true r x n e = absurd (n refl)
place-other false r x n e = ap (option_map suc) e

pub place_own : (names : List Text) (x : ℕ) → IsDistinct bytes_eq names → x < length names → place_of (get_or names x []) names ≡ Some x
unfolding IsDistinct
place_own [] x h l = absurd (omega arith)
place_own (first ∷ names) zero h l = ap (λ b. if b then Some 0 else option_map suc (place_of first names)) (text_same first first refl)
place_own (first ∷ names) (suc x) h l = place-other (bytes_eq (get_or names x []) first) _ x (own-apart first names x (omega arith) h.0) (place_own names x h.1 (omega arith))

-- ---- types

-- the type under a name stands at the place of the name
pub record StandsAt (types : List (Text × Meta)) (name : Text) (x : ℕ) (type : Meta) : Type 0 where
  pub at : at_text name types ≡ Some type
  pub value : (d : Meta) → get_or (values_of types) x d ≡ type
  pub within : x < length (values_of types)

first_stands : (name : Text) (e : Text × Meta) (types : List (Text × Meta)) (x : ℕ) → bytes_eq name e.0 ≡ true → x ≡ 0 → StandsAt (e ∷ types) name x e.1
first_stands name e types x b z = record {
  at = ap (λ t. cond t (Some e.1) (at_text name types)) b;
  value = λ d. ap (λ k. get_or (values_of (e ∷ types)) k d) z;
  within = omega (arith, z);
}

later_stands : (name : Text) (e : Text × Meta) (types : List (Text × Meta)) (x y : ℕ) (type : Meta) → bytes_eq name e.0 ≡ false → x ≡ suc y → StandsAt types name y type → StandsAt (e ∷ types) name x type
later_stands name e types x y type b z h = record {
  at = ap (λ t. cond t (Some e.1) (at_text name types)) b ∙ h.at;
  value = λ d. ap (λ k. get_or (values_of (e ∷ types)) k d) z ∙ h.value d;
  within = omega (arith, z, h.within);
}

pub stands_at : (types : List (Text × Meta)) (name : Text) (x : ℕ) → place_of name (keys_of types) ≡ Some x → (type : Meta) × StandsAt types name x type
stands_at [] name x e = absurd (none_some x e)
stands_at (t ∷ types) name x e = pick (stands_at types name) (place_cases (bytes_eq name t.0) (place_of name (keys_of types)) x e)
  where
    pick : ((y : ℕ) → place_of name (keys_of types) ≡ Some y → (type : Meta) × StandsAt types name y type) → ((bytes_eq name t.0 ≡ true) × (x ≡ 0)) ⊎ ((bytes_eq name t.0 ≡ false) × ((y : ℕ) × (place_of name (keys_of types) ≡ Some y) × (x ≡ suc y))) → (type : Meta) × StandsAt (t ∷ types) name x type
    pick ih (inl p) = (t.1, first_stands name t types x p.0 p.1)
    pick ih (inr p) = let s = ih p.1.0 p.1.1 in (s.0, later_stands name t types x p.1.0 s.0 p.0 p.1.2 s.1)

-- a name under which a type stands has a place
pub has_place : (types : List (Text × Meta)) (name : Text) (type : Meta) → at_text name types ≡ Some type → (x : ℕ) × (place_of name (keys_of types) ≡ Some x)
has_place [] name type e = absurd (none_some type e)
has_place (t ∷ types) name type e = pick (has_place types name type) (bytes_eq name t.0) refl
  where
    pick : (at_text name types ≡ Some type → (x : ℕ) × (place_of name (keys_of types) ≡ Some x)) → (b : Bool) → bytes_eq name t.0 ≡ b → (x : ℕ) × (place_of name (keys_of (t ∷ types)) ≡ Some x)
    pick ih true b = (0, ap (λ q. if q then Some 0 else option_map suc (place_of name (keys_of types))) b)
    pick ih false b =
        let r = ih (sym (ap (λ q. cond q (Some t.1) (at_text name types)) b) ∙ e) in
        (suc r.0, ap (λ q. if q then Some 0 else option_map suc (place_of name (keys_of types))) b ∙ ap (option_map suc) r.1)

-- ---- names, each inserted in turn

none-any : (name : Text) (done more : List Text) → IsDistinct bytes_eq (done ++ name ∷ more) → list_any (bytes_eq name) done ≡ false
unfolding IsDistinct
none-any name [] more h = refl
none-any name (d ∷ done) more h = pick (bytes_eq name d) refl (none-any name done more h.1)
  where
    apart : (xs : List Text) → AllByRecursion (λ y. bytes_eq d y ≡ false) (xs ++ name ∷ more) → bytes_eq d name ≡ false
    apart [] a = a.0
    apart (x ∷ xs) a = apart xs a.1

    pick : (b : Bool) → bytes_eq name d ≡ b → list_any (bytes_eq name) done ≡ false → (bytes_eq name d || list_any (bytes_eq name) done) ≡ false
    pick true e r = absurd (true≢false (sym (text_same d name (sym (same_text name d e))) ∙ apart done h.0))
    pick false e r = ap (λ b. b || list_any (bytes_eq name) done) e ∙ r

inserted_last : (name : Text) (done : List Text) → list_any (bytes_eq name) done ≡ false → insert_key bytes_eq done name ≡ done ++ name ∷ []
inserted_last name done e = ap (λ b. if b then done else done ++ name ∷ []) e

-- distinct names, each inserted after others, stand there as they are
inserted_after : (done names : List Text) → IsDistinct bytes_eq (done ++ names) → fold (insert_key bytes_eq) done names ≡ done ++ names
inserted_after done [] h = sym (append-nil done)
inserted_after done (name ∷ names) h =
    let seam : (done ++ name ∷ []) ++ names ≡ done ++ name ∷ names = append_assoc done (name ∷ []) names in
    ap (λ d. fold (insert_key bytes_eq) d names) (inserted_last name done (none-any name done names h))
    ∙ inserted_after (done ++ name ∷ []) names (rw seam h)
    ∙ seam

pub all_inserted : (names : List Text) → IsDistinct bytes_eq names → fold (insert_key bytes_eq) [] names ≡ names
all_inserted names h = inserted_after [] names h
