-- Lists of keys, over the texts that they stand for.
use Rattle.std.proofs.Common.{arith, ◌≡◌, ◌==◌, true, false, List, [], ◌∷◌, length, map, refl, sym, ◌∙◌, Some, None}
use Rattle.std.specs.declared.string.String.{String}
use Rattle.std.specs.declared.alloc.Global.{Global}
use Rattle.gql_registry_meta.specs.Parts.{is_empty}
use Rattle.gql_registry_meta.specs.Views.{text_of}
use Rattle.gql_dynamic_types.specs.Types.{keys_meta}

-- there is no text where there is no key
pub no_texts : (ks : List (String Global)) → (length ks == 0) ≡ is_empty (map text_of ks)
no_texts [] = refl
no_texts (k ∷ ks) = grind arith

-- nothing is registered for no key
pub no_keys : (ks : List (String Global)) → (length ks == 0) ≡ true → None ≡ keys_meta (map text_of ks)
no_keys [] e = refl
no_keys (k ∷ ks) e =
    let contrary : false ≡ true = sym (no_texts (k ∷ ks)) ∙ e in
    cc

-- and the keys, where there are some
pub some_keys : (ks : List (String Global)) → (length ks == 0) ≡ false → Some (map text_of ks) ≡ keys_meta (map text_of ks)
some_keys [] e = cc e
some_keys (k ∷ ks) e = refl
