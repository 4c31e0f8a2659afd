-- The members of a canonical form have the same views as those of the document.
use Rattle.std.proofs.Common.{◌≡◌, Bool, true, false, cond, List, [], ◌∷◌, ◌++◌, filter, map, Option, Some, None, codes, refl, sym, ap, ◌∙◌, rules}
use Rattle.std.proofs.lemmas.List.{map-append}
use Rattle.std.specs.Prelude.{◌||◌}
use Rattle.std.specs.Cmp.Lexicographic.{bytes_decides}
use Rattle.std.specs.List.{find, list_any}
use Rattle.std.specs.Str.{bytes_eq}
use Rattle.gql_text_values.specs.declared.const_value.ConstValue.TheFolds.{the_lemmas}
use Rattle.gql_text_values.specs.declared.const_value.ConstValue.TheVariants as values
use Rattle.gql_text.specs.Owners.{deprecated, specified_by, one_of, is_attribute}
use Rattle.gql_text.specs.declared.document.DirectiveUse.{DirectiveUse}
use Rattle.gql_registry_meta.specs.Parts.{Text, Deprecated, not_deprecated, deprecated_for, Invocation}
use Rattle.gql_publish_document.specs.Uses.{first_string, is_use_of, deprecation_by, deprecation_in, url_by, url_in, has_one_of, invocation, is_custom, invocations_in}
use Rattle.gql_sdl_rows.specs.Shown.{deprecated_uses, url_uses, one_of_uses}
use Rattle.gql_publish_canonical.proofs.Canonical.{at_zero, member_uses}

-- ---- uses

one_text : (name text : Text) → first_string ((name, values.String text) ∷ []) ≡ Some text
one_text name text = search (rules, the_lemmas)

-- uses that are no attributes, of a name of an attribute
none_custom : (name : Text) → is_attribute name ≡ true → (us : List DirectiveUse) → find (is_use_of name) (map at_zero (invocations_in us)) ≡ None
none_custom name a [] = refl
none_custom name a (u ∷ us) = by_test (is_attribute u.name) refl (none_custom name a us)
  where
    other : (t : Bool) → is_attribute u.name ≡ false → bytes_eq u.name name ≡ t → t ≡ false
    other true e f = let same : true ≡ false = sym a ∙ ap is_attribute (sym ((bytes_decides u.name name).0 f)) ∙ e in absurd cc
    other false e f = refl

    by_test : (t : Bool) → is_attribute u.name ≡ t → find (is_use_of name) (map at_zero (invocations_in us)) ≡ None → find (is_use_of name) (map at_zero (invocations_in (u ∷ us))) ≡ None
    by_test true e f = rw e f
    by_test false e f = rw (e, other (bytes_eq u.name name) e refl) f

pub deprecation_stays : (us : List DirectiveUse) → deprecation_in (map at_zero (member_uses us)) ≡ deprecation_in us
deprecation_stays us = by_deprecation (deprecation_in us)
  where
    by_deprecation : (d : Deprecated) → deprecation_in (map at_zero (deprecated_uses d ++ invocations_in us)) ≡ d
    by_deprecation not_deprecated = ap deprecation_by (none_custom deprecated refl us)
    by_deprecation (deprecated_for None) = refl
    by_deprecation (deprecated_for (Some reason)) = ap deprecated_for (one_text (codes "reason") reason)

pub url_stays : (us : List DirectiveUse) → url_in (map at_zero (url_uses (url_in us) ++ invocations_in us)) ≡ url_in us
url_stays us = by_url (url_in us)
  where
    by_url : (o : Option Text) → url_in (map at_zero (url_uses o ++ invocations_in us)) ≡ o
    by_url None = ap url_by (none_custom specified_by refl us)
    by_url (Some url) = one_text (codes "url") url

none_any : (name : Text) → is_attribute name ≡ true → (us : List DirectiveUse) → list_any (is_use_of name) (map at_zero (invocations_in us)) ≡ false
none_any name a us = not_found (map at_zero (invocations_in us)) (none_custom name a us)
  where
    step : (t b : Bool) (x : DirectiveUse) (rest : Option DirectiveUse) → cond t (Some x) rest ≡ None → (rest ≡ None → b ≡ false) → (t || b) ≡ false
    step true b x rest e h = absurd cc
    step false b x rest e h = h e

    not_found : (xs : List DirectiveUse) → find (is_use_of name) xs ≡ None → list_any (is_use_of name) xs ≡ false
    not_found [] e = refl
    not_found (x ∷ xs) e = step (is_use_of name x) (list_any (is_use_of name) xs) x (find (is_use_of name) xs) e (λ f. not_found xs f)

pub one_of_stays : (us : List DirectiveUse) → has_one_of (map at_zero (one_of_uses (has_one_of us) ++ invocations_in us)) ≡ has_one_of us
one_of_stays us = by_mark (has_one_of us)
  where
    by_mark : (mark : Bool) → has_one_of (map at_zero (one_of_uses mark ++ invocations_in us)) ≡ mark
    by_mark true = refl
    by_mark false = none_any one_of refl us

custom_again : (us : List DirectiveUse) → invocations_in (map at_zero (invocations_in us)) ≡ invocations_in us
custom_again [] = refl
custom_again (u ∷ us) = by_test (is_attribute u.name) refl (custom_again us)
  where
    by_test : (t : Bool) → is_attribute u.name ≡ t → invocations_in (map at_zero (invocations_in us)) ≡ invocations_in us → invocations_in (map at_zero (invocations_in (u ∷ us))) ≡ invocations_in (u ∷ us)
    by_test true e f = rw e f
    by_test false e f = rw (e, e) (ap (λ (l : List Invocation). invocation u ∷ l) f)

pub filter_append : {X : Type 0} (test : X → Bool) (xs ys : List X) → filter test (xs ++ ys) ≡ filter test xs ++ filter test ys
filter_append test [] ys = refl
filter_append {X} test (x ∷ xs) ys = by_test (test x) (filter_append test xs ys)
  where
    by_test : (t : Bool) → filter test (xs ++ ys) ≡ filter test xs ++ filter test ys → cond t (x ∷ filter test (xs ++ ys)) (filter test (xs ++ ys)) ≡ cond t (x ∷ filter test xs) (filter test xs) ++ filter test ys
    by_test true e = ap (λ (l : List X). x ∷ l) e
    by_test false e = e

-- attributes before them
customs_stay : (attributes : List Invocation) (us : List DirectiveUse) → filter is_custom (map at_zero attributes) ≡ [] → invocations_in (map at_zero (attributes ++ invocations_in us)) ≡ invocations_in us
customs_stay attributes us e =
    ap invocations_in (map-append at_zero attributes (invocations_in us))
    ∙ ap (map invocation) (filter_append is_custom (map at_zero attributes) (map at_zero (invocations_in us)) ∙ ap (λ (l : List DirectiveUse). l ++ filter is_custom (map at_zero (invocations_in us))) e)
    ∙ custom_again us

no_deprecated : (d : Deprecated) → filter is_custom (map at_zero (deprecated_uses d)) ≡ []
no_deprecated not_deprecated = refl
no_deprecated (deprecated_for None) = refl
no_deprecated (deprecated_for (Some reason)) = refl

no_url : (o : Option Text) → filter is_custom (map at_zero (url_uses o)) ≡ []
no_url None = refl
no_url (Some url) = refl

no_one_of : (mark : Bool) → filter is_custom (map at_zero (one_of_uses mark)) ≡ []
no_one_of true = refl
no_one_of false = refl

pub member_stays : (us : List DirectiveUse) → invocations_in (map at_zero (member_uses us)) ≡ invocations_in us
member_stays us = customs_stay (deprecated_uses (deprecation_in us)) us (no_deprecated (deprecation_in us))

pub scalar_stays : (us : List DirectiveUse) → invocations_in (map at_zero (url_uses (url_in us) ++ invocations_in us)) ≡ invocations_in us
scalar_stays us = customs_stay (url_uses (url_in us)) us (no_url (url_in us))

pub input_stays : (us : List DirectiveUse) → invocations_in (map at_zero (one_of_uses (has_one_of us) ++ invocations_in us)) ≡ invocations_in us
input_stays us = customs_stay (one_of_uses (has_one_of us)) us (no_one_of (has_one_of us))

pub head_stays : (us : List DirectiveUse) → invocations_in (map at_zero (invocations_in us)) ≡ invocations_in us
head_stays us = custom_again us
