-- The texts of attributes are those of uses before all others.
use Rattle.std.proofs.Common.{◌≡◌, Bool, true, false, List, [], ◌++◌, codes, refl, sym, ap, ◌∙◌, append_assoc, rules, Option, Some, None}
use Rattle.std.proofs.lemmas.List.{append-nil}
use Rattle.std.proofs.lemmas.Grind.{flat_map-append}
use Rattle.gql_text_lexer.specs.Quoting.{quote}
use Rattle.gql_text_values.specs.ConstValues.{value_text}
use Rattle.gql_text_values.specs.declared.const_value.ConstValue.TheFolds.{the_lemmas}
use Rattle.gql_text_values.specs.declared.const_value.ConstValue.TheVariants as cv
use Rattle.gql_registry_meta.specs.Parts.{Text, Deprecated, not_deprecated, deprecated_for, Invocation}
use Rattle.gql_registry_meta.specs.Invocations.{invocation_text}
use Rattle.gql_sdl_view.specs.Spelling.{uses_text, deprecated_text, url_text, one_of_text}
use Rattle.gql_sdl_rows.specs.Shown.{deprecated_uses, url_uses, one_of_uses}

text_string : (text : Text) → value_text (cv.String text) ≡ quote text
text_string text = search (rules, the_lemmas)

-- one argument, and no other one
one_argument : (text : Text) → text ++ codes ")" ≡ ((text ++ []) ++ codes ")") ++ []
one_argument text = sym (append_assoc text [] (codes ")")) ∙ sym (append-nil ((text ++ []) ++ codes ")"))

-- the texts of uses, one list after another
pub uses_text-append : (us vs : List Invocation) → uses_text (us ++ vs) ≡ uses_text us ++ uses_text vs
uses_text-append us vs = flat_map-append (λ (u : Invocation). codes " " ++ invocation_text u) us vs

pub deprecated_are : (d : Deprecated) → deprecated_text d ≡ uses_text (deprecated_uses d)
deprecated_are not_deprecated = refl
deprecated_are (deprecated_for None) = refl
deprecated_are (deprecated_for (Some reason)) = rw (text_string reason) (ap (λ (t : Text). codes " @deprecated(reason: " ++ t) (one_argument (quote reason)))

pub url_are : (url : Option Text) → url_text url ≡ uses_text (url_uses url)
url_are None = refl
url_are (Some url) = rw (text_string url) (ap (λ (t : Text). codes " @specifiedBy(url: " ++ t) (one_argument (quote url)))

pub one_of_are : (mark : Bool) → one_of_text mark ≡ uses_text (one_of_uses mark)
one_of_are true = refl
one_of_are false = refl

-- an attribute, the other uses, and more
pub attributes_are : (text more : Text) (attributes uses : List Invocation) → text ≡ uses_text attributes → text ++ (uses_text uses ++ more) ≡ uses_text (attributes ++ uses) ++ more
attributes_are text more attributes uses e =
    ap (λ (t : Text). t ++ (uses_text uses ++ more)) e ∙ sym (append_assoc (uses_text attributes) (uses_text uses) more) ∙ ap (λ (t : Text). t ++ more) (sym (uses_text-append attributes uses))
