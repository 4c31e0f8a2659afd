-- Items that a builder takes one after another.
use Rattle.std.specs.Prelude.{IsTrue, Bool, not, List, [], ◌∷◌, ◌++◌, map}
use Rattle.std.specs.Map.{keys_of}
use Rattle.gql_text_syntax.specs.declared.syntax.ObjectLike.{ObjectLike}
use Rattle.gql_text.specs.DocumentOf.{use_of, implements_of, field_def_of}
use Rattle.gql_registry_meta.specs.Parts.{Text, is_among}
use Rattle.gql_publish_document.specs.Clean.{AreDistinct, AreCleanUses, AreCleanFields}

-- each item is new among those that are taken before it
abbrev pub AreNew : {X : Type 0} → (List X → X → Bool) → (before : List X) → List X → Type 0
AreNew is_new before [] = Unit {0}
AreNew is_new before (x ∷ xs) = IsTrue (is_new before x) × AreNew is_new (before ++ x ∷ []) xs

-- no entry has the name of this one
abbrev pub is_new_entry : {X : Type 0} → List (Text × X) → Text × X → Bool
is_new_entry entries entry = not (is_among entry.0 (keys_of entries))

-- the name is none of these
abbrev pub is_new_name : List Text → Text → Bool
is_new_name names name = not (is_among name names)

-- of an object or an interface that is written: its uses, the names that it implements, and its fields
abbrev pub IsCleanObject : ObjectLike → Type 0
IsCleanObject object = AreCleanUses (map use_of object.uses) × AreDistinct (implements_of object.implements) × AreCleanFields (map field_def_of object.fields)
