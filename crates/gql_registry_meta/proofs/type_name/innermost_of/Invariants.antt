use Rattle.std.proofs.Common.{◌≡◌, length}
use denote.Text.{Utf8}
use denote.Shadow.{shadow}
use Rattle.gql_text_values.specs.TypeRefs.{innermost}
use Rattle.gql_registry_meta.specs.TypeNames.{reference_read}
use Rattle.gql_registry_meta.proofs.type_name.innermost_of.Given as goal

-- what is left has the same innermost name
abbrev pub invariant-loop-name : goal.invariant-loop-name
invariant-loop-name l = shadow (Utf8 l.rest) × (innermost (reference_read l.rest) ≡ innermost (reference_read l.fn.type_name))

abbrev pub decreases-loop-name : goal.decreases-loop-name
decreases-loop-name l = length l.rest
