-- Lists that are made piece by piece, and the places of names.
use Rattle.std.proofs.Common.{arith, Bor, ◌≡◌, ◌+◌, ◌||◌, not, ℕ, suc, Bool, true, false, cond, if◌then◌else◌, List, [], ◌∷◌, ◌++◌, map, flat_map, length, refl, ap, sym, ◌∙◌, append_assoc, append-nil, Some, None, nat_lt, Vec}
use Rattle.std.proofs.lemmas.Bool.{ltb-true, ltb-false, lt-ltb, le-ltb}
use Rattle.std.proofs.lemmas.List.Concat.{flat_map-append}
use Rattle.std.specs.List.{list_any, position, position_or_len}
use Rattle.std.specs.Map.{values_of}
use Rattle.std.specs.Option.{option_map}
use Rattle.std.specs.Str.{bytes_eq}
use Rattle.std.specs.declared.string.String.{String}
use Rattle.std.specs.declared.alloc.Global.{Global}
use Rattle.gql_registry_meta.specs.Parts.{Text}
use Rattle.gql_registry_meta.specs.Views.{text_of, texts_in, entries_of}
use Rattle.gql_registry_closures.specs.Links.{Link}
use Rattle.gql_registry_closures.specs.Table.{place_of, edges_of, places_of, one_or_none, edge_to, lists}

-- ---- pieces

-- one piece more
pub one_piece : {X E : Type 0} (g : X → List E) (before middle whole : List E) (x : X) (it rest : List X) → middle ≡ before ++ g x → it ≡ x ∷ rest → before ++ flat_map g it ≡ whole → middle ++ flat_map g rest ≡ whole
one_piece g before middle whole x it rest m i w =
    ap (λ l. l ++ flat_map g rest) m ∙ append_assoc before (g x) (flat_map g rest) ∙ sym (ap (λ l. before ++ flat_map g l) i) ∙ w

-- no piece more
pub all_pieces : {X E : Type 0} (g : X → List E) (after whole : List E) (it : List X) → it ≡ [] → after ++ flat_map g it ≡ whole → after ≡ whole
all_pieces g after whole it i w = sym (append-nil after) ∙ sym (ap (λ l. after ++ flat_map g l) i) ∙ w

-- one item more
pub one_item : {X E : Type 0} (f : X → E) (before middle whole : List E) (x : X) (it rest : List X) → middle ≡ before ++ f x ∷ [] → it ≡ x ∷ rest → before ++ map f it ≡ whole → middle ++ map f rest ≡ whole
one_item f before middle whole x it rest m i w =
    ap (λ l. l ++ map f rest) m ∙ append_assoc before (f x ∷ []) (map f rest) ∙ sym (ap (λ l. before ++ map f l) i) ∙ w

-- no item more
pub all_items : {X E : Type 0} (f : X → E) (after whole : List E) (it : List X) → it ≡ [] → after ++ map f it ≡ whole → after ≡ whole
all_items f after whole it i w = sym (append-nil after) ∙ sym (ap (λ l. after ++ map f l) i) ∙ w

-- a vector more
pub lists_last : {A : Type 0} (vs : List (Vec A Global)) (v : Vec A Global) → lists (vs ++ v ∷ []) ≡ lists vs ++ v.items ∷ []
lists_last [] v = refl
lists_last (u ∷ vs) v = ap (λ l. u.items ∷ l) (lists_last vs v)

-- the values of entries, by what they stand for
pub values_viewed : {A B : Type 0} (f : A → B) (es : List (String Global × A)) → values_of (entries_of f es) ≡ map f (values_of es)
values_viewed f [] = refl
values_viewed f (e ∷ es) = ap (λ l. f e.1 ∷ l) (values_viewed f es)

map_twice : {A B C : Type 0} (f : A → B) (h : B → C) (xs : List A) → map (λ x. h (f x)) xs ≡ map h (map f xs)
map_twice f h [] = refl
map_twice f h (x ∷ xs) = ap (λ l. h (f x) ∷ l) (map_twice f h xs)

flat_map_after : {A B C : Type 0} (f : A → B) (h : B → List C) (xs : List A) → flat_map (λ x. h (f x)) xs ≡ flat_map h (map f xs)
flat_map_after f h [] = refl
flat_map_after f h (x ∷ xs) = ap (λ l. h (f x) ++ l) (flat_map_after f h xs)

-- a map over the values of entries, by what they stand for
pub map_viewed : {A B C : Type 0} (f : A → B) (h : B → C) (es : List (String Global × A)) → map (λ x. h (f x)) (values_of es) ≡ map h (values_of (entries_of f es))
map_viewed f h es = map_twice f h (values_of es) ∙ ap (map h) (sym (values_viewed f es))

-- a test of the values of entries, by what they stand for
pub any_viewed : {A B : Type 0} (f : A → B) (p : B → Bool) (es : List (String Global × A)) → list_any (λ x. p (f x)) (values_of es) ≡ list_any p (values_of (entries_of f es))
any_viewed f p [] = refl
any_viewed f p (e ∷ es) = ap (λ b. p (f e.1) || b) (any_viewed f p es)

pub flat_map_viewed : {A B C : Type 0} (f : A → B) (h : B → List C) (es : List (String Global × A)) → flat_map (λ x. h (f x)) (values_of es) ≡ flat_map h (values_of (entries_of f es))
flat_map_viewed f h es = flat_map_after f h (values_of es) ∙ ap (flat_map h) (sym (values_viewed f es))

-- the same of whole entries
pub edges_of_entries : {A B : Type 0} (names : List Text) (f : A → B) (h : Text × B → List Link) (es : List (String Global × A)) → flat_map (λ (e : String Global × A). edges_of names (h (text_of e.0, f e.1))) es ≡ edges_of names (flat_map h (entries_of f es))
edges_of_entries names f h [] = refl
edges_of_entries names f h (e ∷ es) =
    ap (λ l. edges_of names (h (text_of e.0, f e.1)) ++ l) (edges_of_entries names f h es)
    ∙ sym (flat_map-append (λ (link : Link). one_or_none (edge_to link) (place_of link.name names)) (h (text_of e.0, f e.1)) (flat_map h (entries_of f es)))

-- edges of links that are made one by one
pub edges_of_map : {X : Type 0} (names : List Text) (h : X → Link) (xs : List X) → edges_of names (map h xs) ≡ flat_map (λ x. edges_of names (h x ∷ [])) xs
edges_of_map names h [] = refl
edges_of_map names h (x ∷ xs) =
    ap (λ l. one_or_none (edge_to (h x)) (place_of (h x).name names) ++ l) (edges_of_map names h xs)
    ∙ ap (λ l. l ++ flat_map (λ x. edges_of names (h x ∷ [])) xs) (sym (append-nil (one_or_none (edge_to (h x)) (place_of (h x).name names))))

-- edges of links that are made in groups
pub edges_of_flat_map : {X : Type 0} (names : List Text) (h : X → List Link) (xs : List X) → edges_of names (flat_map h xs) ≡ flat_map (λ x. edges_of names (h x)) xs
edges_of_flat_map names h [] = refl
edges_of_flat_map names h (x ∷ xs) =
    flat_map-append (λ (link : Link). one_or_none (edge_to link) (place_of link.name names)) (h x) (flat_map h xs)
    ∙ ap (λ l. edges_of names (h x) ++ l) (edges_of_flat_map names h xs)

-- the same of the values of entries
pub edges_of_each : {A B : Type 0} (names : List Text) (f : A → B) (h : B → Link) (es : List (String Global × A)) → flat_map (λ x. edges_of names (h (f x) ∷ [])) (values_of es) ≡ edges_of names (map h (values_of (entries_of f es)))
edges_of_each names f h es = sym (edges_of_map names (λ x. h (f x)) (values_of es)) ∙ ap (edges_of names) (map_viewed f h es)

pub edges_of_groups : {A B : Type 0} (names : List Text) (f : A → B) (h : B → List Link) (es : List (String Global × A)) → flat_map (λ x. edges_of names (h (f x))) (values_of es) ≡ edges_of names (flat_map h (values_of (entries_of f es)))
edges_of_groups names f h es = flat_map_viewed f (λ b. edges_of names (h b)) es ∙ sym (edges_of_flat_map names h (values_of (entries_of f es)))

-- and of names
pub edges_of_names : {A : Type 0} (names : List Text) (f : A → Text) (h : Text → Link) (xs : List A) → flat_map (λ x. edges_of names (h (f x) ∷ [])) xs ≡ edges_of names (map h (map f xs))
edges_of_names names f h xs = sym (edges_of_map names (λ x. h (f x)) xs) ∙ ap (edges_of names) (map_twice f h xs)

pub edges_of-append : (names : List Text) (xs ys : List Link) → edges_of names (xs ++ ys) ≡ edges_of names xs ++ edges_of names ys
edges_of-append names xs ys = flat_map-append (λ (link : Link). one_or_none (edge_to link) (place_of link.name names)) xs ys

-- the places of names, one by one
pub places_of_each : {X : Type 0} (names : List Text) (h : X → Text) (xs : List X) → places_of names (map h xs) ≡ flat_map (λ x. places_of names (h x ∷ [])) xs
places_of_each names h [] = refl
places_of_each names h (x ∷ xs) =
    ap (λ l. one_or_none (λ place. place) (place_of (h x) names) ++ l) (places_of_each names h xs)
    ∙ ap (λ l. l ++ flat_map (λ x. places_of names (h x ∷ [])) xs) (sym (append-nil (one_or_none (λ place. place) (place_of (h x) names))))

-- ---- places

shifted-by : (m n k : ℕ) (b : Bool) → nat_lt m n ≡ b → k ≡ 1 + n → cond (nat_lt (1 + m) k) (Some (1 + m)) None ≡ option_map suc (cond b (Some m) None)
shifted-by m n k true e q = ap (λ b. cond b (Some (1 + m)) None) (lt-ltb (1 + m) k (omega (arith, q, ltb-true m n e))) ∙ ap Some (omega arith)
shifted-by m n k false e q = ap (λ b. cond b (Some (1 + m)) None) (le-ltb (1 + m) k (omega (arith, q, ltb-false m n e)))

position-step : {X : Type 0} (p : X → Bool) (x : X) (xs : List X) (b : Bool) → p x ≡ b → position p (x ∷ xs) ≡ cond b (Some 0) (option_map suc (position p xs))
position-step p x xs true e = ap (λ b. cond (nat_lt (cond (not b) (1 + position_or_len p xs) 0) (length (x ∷ xs))) (Some (cond (not b) (1 + position_or_len p xs) 0)) None) e
    ∙ ap (λ b. cond b (Some 0) None) (lt-ltb 0 (length (x ∷ xs)) (omega arith))
position-step p x xs false e = ap (λ b. cond (nat_lt (cond (not b) (1 + position_or_len p xs) 0) (length (x ∷ xs))) (Some (cond (not b) (1 + position_or_len p xs) 0)) None) e
    ∙ shifted-by (position_or_len p xs) (length xs) (length (x ∷ xs)) (nat_lt (position_or_len p xs) (length xs)) refl (omega arith)

-- the place of a borrowed name is that of its text
pub position_place : (name : Text) (ks : List (Bor Text)) → position (λ k. bytes_eq name k.now) ks ≡ place_of name (texts_in ks)
position_place name [] = refl
position_place name (k ∷ ks) =
    position-step (λ (q : Bor Text). bytes_eq name q.now) k ks (bytes_eq name k.now) refl
    ∙ ap (λ r. if bytes_eq name k.now then Some 0 else option_map suc r) (position_place name ks)

-- edges of three lists of links, one after another
pub three_parts : (names : List Text) (a b c : List Link) → (edges_of names a ++ edges_of names b) ++ edges_of names c ≡ edges_of names (a ++ (b ++ c))
three_parts names a b c =
    append_assoc (edges_of names a) (edges_of names b) (edges_of names c)
    ∙ ap (λ l. edges_of names a ++ l) (sym (edges_of-append names b c))
    ∙ sym (edges_of-append names a (b ++ c))
