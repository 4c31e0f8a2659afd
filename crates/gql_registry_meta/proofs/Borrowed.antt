-- Lists of borrowed names, over the texts that they stand for.
use Rattle.std.proofs.Common.{Bor, ◌≡◌, ◌++◌, ◌||◌, Bool, true, false, cond, List, [], ◌∷◌, refl, ap, ◌∙◌}
use Rattle.std.specs.List.{list_any}
use Rattle.std.specs.Str.{bytes_eq}
use Rattle.gql_registry_meta.specs.Parts.{Text, is_among}
use Rattle.gql_registry_meta.specs.Views.{texts_in}

-- whether a text is among the names
pub texts_have : (t : Text) (ks : List (Bor Text)) → list_any (λ k. bytes_eq t k.now) ks ≡ is_among t (texts_in ks)
texts_have t [] = refl
texts_have t (k ∷ ks) = ap (λ b. bytes_eq t k.now || b) (texts_have t ks)

-- a name at the end
pub texts_last : (ks : List (Bor Text)) (k : Bor Text) → texts_in (ks ++ k ∷ []) ≡ texts_in ks ++ k.now ∷ []
texts_last [] k = refl
texts_last (q ∷ ks) k = ap (λ l. q.now ∷ l) (texts_last ks k)

texts-cond : (b : Bool) (ks : List (Bor Text)) (k : Bor Text) → texts_in (cond b ks (ks ++ k ∷ [])) ≡ cond b (texts_in ks) (texts_in ks ++ k.now ∷ [])
texts-cond true ks k = refl
texts-cond false ks k = texts_last ks k

-- a name more: it stays where it is among them, and a new one goes last
pub texts_with : (ks : List (Bor Text)) (k : Bor Text) → texts_in (cond (list_any (λ q. bytes_eq k.now q.now) ks) ks (ks ++ k ∷ [])) ≡ cond (is_among k.now (texts_in ks)) (texts_in ks) (texts_in ks ++ k.now ∷ [])
texts_with ks k = texts-cond (list_any (λ q. bytes_eq k.now q.now) ks) ks k ∙ ap (λ b. cond b (texts_in ks) (texts_in ks ++ k.now ∷ [])) (texts_have k.now ks)
