-- Equality of type references, and what a hasher is fed of one.
use Rattle.std.specs.Prelude.{Bool, false, ◌++◌}
use Rattle.std.specs.Str.{bytes_eq}
use Rattle.std.specs.Hash as fed
use Rattle.gql_text_values.specs.TypeRefs.{Reference, named, non_null, list_of}

-- both are built alike from equal names
abbrev pub same : Reference → Reference → Bool
same (named a) (named b) = bytes_eq a b
same (non_null a) (non_null b) = same a b
same (list_of a) (list_of b) = same a b
same _ _ = false

-- a number for the level, and then what is within
abbrev pub writes : Reference → fed.HashWrites
writes (named name) = fed.u8 0 ++ fed.str name
writes (non_null inner) = fed.u8 1 ++ writes inner
writes (list_of inner) = fed.u8 2 ++ writes inner
