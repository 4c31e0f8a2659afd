-- The text of the type of a field or of an argument says it, and so does that of a default value.
use Rattle.std.proofs.Common.{◌≡◌, ℕ, List, ◌++◌, codes, refl, ap, subst, Option, Some, None}
use Rattle.std.specs.Option.{option_map}
use Rattle.gql_grammar.specs.Form.{opt}
use Rattle.gql_text_syntax.specs.Grammar as g
use Rattle.gql_text_syntax.specs.Types.{type_of}
use Rattle.gql_text_syntax.specs.declared.syntax.Literal.{Literal}
use Rattle.gql_text_values.specs.ConstValues.{value_text}
use Rattle.gql_text_values.specs.TypeRefs.{type_text}
use Rattle.gql_text_values.specs.declared.const_value.ConstValue.{ConstValue}
use Rattle.gql_text_values.specs.declared.type_ref.TypeRef.{TypeRef}
use Rattle.gql_text.specs.DocumentOf.{const_value_of}
use Rattle.gql_sdl_readback.proofs.Sound.{IsSound}
use Rattle.gql_sdl_readback.proofs.Texts.{Says}
use Rattle.gql_sdl_readback.proofs.Says.{blank, sign_then, absent, present, IsThere, mapped, weaken}
use Rattle.gql_sdl_readback.proofs.Types.{type_ref_says}
use Rattle.gql_sdl_view.specs.Spelling.{default_text}
use Rattle.gql_sdl_rows.proofs.Ends.{EndsName}
use Rattle.gql_sdl_rows.proofs.Parts.{IsSoundType, IsSoundDefault}
use Rattle.gql_sdl_rows.proofs.Values.{StandsFor, EndsValue, value_says}

-- the text of a type, where no byte follows that goes on a name
pub type_says : (ty : TypeRef) (rest : List ℕ) → IsSoundType ty → EndsName rest → Says g.type_ref (λ x. type_of x ≡ ty) (type_text ty) rest
type_says ty rest i k =
    subst (λ (t : TypeRef). Says g.type_ref (λ x. type_of x ≡ t) (type_text t) rest) i.same
    (weaken (λ x. type_of x ≡ type_of i.tree) (type_ref_says i.tree rest i.spelled k) (λ x h. ap type_of h))

-- "=" Value
default_value_says : (v : ConstValue) (rest : List ℕ) → IsSound 64 v → EndsValue rest → Says g.default_value (StandsFor v) (codes "= " ++ value_text v) rest
unfolding g.default_value
default_value_says v rest i k = mapped (sign_then refl refl refl (blank refl (value_says v rest i k))) (λ p h. h)

-- the text of a default, or of none
abbrev pub default_of : Option ConstValue → List ℕ
default_of d = default_text (option_map value_text d)

pub default_says : (d : Option ConstValue) (rest : List ℕ) → IsSoundDefault d → EndsValue rest → Says (opt g.default_value) (λ o. option_map const_value_of o ≡ d) (default_of d) rest
default_says None rest i k = weaken _ (absent g.default_value rest) (λ o h. rw h refl)
default_says (Some v) rest i k = blank refl (weaken _ (present (default_value_says v rest i k)) (λ o h. by_option o h))
  where
    by_option : (o : Option Literal) → IsThere (StandsFor v) o → option_map const_value_of o ≡ Some v
    by_option None h = absurd h
    by_option (Some x) h = ap (λ (w : ConstValue). Some w) h
