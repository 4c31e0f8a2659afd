-- The attributes among the uses that are written.
use Rattle.std.proofs.Common.{◌≡◌, ◌≤◌, Bool, true, false, cond, ◌||◌, List, [], ◌∷◌, length, get_or, map, Some, None, refl, sym, ap, ◌∙◌, arith}
use Rattle.std.specs.List.{find, list_any}
use Rattle.std.specs.Option.{option_map}
use Rattle.std.specs.Str.{bytes_eq}
use Rattle.gql_text_syntax.specs.declared.syntax.Use.{Use}
use Rattle.gql_text_syntax.specs.declared.syntax.Argument.{Argument}
use Rattle.gql_text.specs.DocumentOf.{argument_of, use_of, const_value_of}
use Rattle.gql_text.specs.Owners.{deprecated, specified_by}
use Rattle.gql_registry_meta.specs.Parts.{Text, not_deprecated, deprecated_for}
use Rattle.gql_text_values.specs.declared.const_value.ConstValue.{out-ConstValue}
use Rattle.gql_publish_document.specs.Uses.{string_layer, first_string, is_use_of, deprecation_by, deprecation_in, url_by, url_in}

-- the first use of a name
found_use : (name : Text) (uses : List Use) → find (is_use_of name) (map use_of uses) ≡ option_map use_of (find (λ u. bytes_eq u.name name) uses)
found_use name [] = refl
found_use name (u ∷ us) = by (bytes_eq u.name name) (found_use name us)
  where
    by : (b : Bool) → find (is_use_of name) (map use_of us) ≡ option_map use_of (find (λ u. bytes_eq u.name name) us)
        → cond b (Some (use_of u)) (find (is_use_of name) (map use_of us)) ≡ option_map use_of (cond b (Some u) (find (λ u. bytes_eq u.name name) us))
    by true rest = refl
    by false rest = rest

pub any_use : (name : Text) (uses : List Use) → list_any (is_use_of name) (map use_of uses) ≡ list_any (λ u. bytes_eq u.name name) uses
any_use name [] = refl
any_use name (u ∷ us) = ap (λ b. bytes_eq u.name name || b) (any_use name us)

pub not_deprecated_by : (uses : List Use) → find (λ u. bytes_eq u.name deprecated) uses ≡ None → deprecation_in (map use_of uses) ≡ not_deprecated
not_deprecated_by uses e = ap deprecation_by (found_use deprecated uses ∙ ap (option_map use_of) e)

pub deprecated_by : (uses : List Use) (u : Use) → find (λ u. bytes_eq u.name deprecated) uses ≡ Some u → deprecation_in (map use_of uses) ≡ deprecated_for (first_string (map argument_of u.arguments))
deprecated_by uses u e = ap deprecation_by (found_use deprecated uses ∙ ap (option_map use_of) e)

pub no_url : (uses : List Use) → find (λ u. bytes_eq u.name specified_by) uses ≡ None → url_in (map use_of uses) ≡ None
no_url uses e = ap url_by (found_use specified_by uses ∙ ap (option_map use_of) e)

pub url_of : (uses : List Use) (u : Use) → find (λ u. bytes_eq u.name specified_by) uses ≡ Some u → url_in (map use_of uses) ≡ first_string (map argument_of u.arguments)
url_of uses u e = ap url_by (found_use specified_by uses ∙ ap (option_map use_of) e)

-- the first argument
pub first_argument : (arguments : List Argument) (a : Argument) → 1 ≤ length arguments → a ≡ get_or arguments 0 a → first_string (map argument_of arguments) ≡ string_layer (out-ConstValue (const_value_of a.value))
first_argument [] a h e = absurd (omega arith)
first_argument (b ∷ bs) a h e = ap (λ (x : Argument). string_layer (out-ConstValue (const_value_of x.value))) (sym e)
