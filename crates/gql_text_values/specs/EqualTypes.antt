-- The test of type references decides equality. All of this is proved, and stands here since the clauses of the comparing traits cite it.
use Rattle.std.proofs.Common.{◌≡◌, ap}
use Rattle.std.specs.Bool.{Decides}
use Rattle.std.specs.Cmp.{IsEquivalence, decided}
use Rattle.std.specs.Cmp.Lexicographic.{bytes_decides}
use Rattle.gql_text_values.specs.TypeRefs.{Reference, named, non_null, list_of}
use Rattle.gql_text_values.specs.SameType.{same}

-- the test decides equality
pub same_decides : (a b : Reference) → Decides (same a b) (a ≡ b)
same_decides (named a) (named b) = ((λ t. ap named ((bytes_decides a b).0 t)), (λ e. (bytes_decides a b).1 cc))
same_decides (non_null a) (non_null b) = ((λ t. ap non_null ((same_decides a b).0 t)), (λ e. (same_decides a b).1 cc))
same_decides (list_of a) (list_of b) = ((λ t. ap list_of ((same_decides a b).0 t)), (λ e. (same_decides a b).1 cc))
same_decides (named a) (non_null b) = ((λ t. absurd cc), (λ e. absurd cc))
same_decides (named a) (list_of b) = ((λ t. absurd cc), (λ e. absurd cc))
same_decides (non_null a) (named b) = ((λ t. absurd cc), (λ e. absurd cc))
same_decides (non_null a) (list_of b) = ((λ t. absurd cc), (λ e. absurd cc))
same_decides (list_of a) (named b) = ((λ t. absurd cc), (λ e. absurd cc))
same_decides (list_of a) (non_null b) = ((λ t. absurd cc), (λ e. absurd cc))

-- so it is an equivalence
pub same_equivalence : IsEquivalence same
same_equivalence = decided same same_decides
