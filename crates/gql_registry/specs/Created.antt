-- Types that are made where they are missing.
use Rattle.std.specs.Prelude.{◌≡◌, ◌≢◌, Bool, true, false, not, List, None, Some}
use Rattle.std.specs.declared.result.Result.{Result}
use Rattle.std.specs.declared.result.Result.TheVariants.{Ok, Err}
use Rattle.std.specs.Borrow.{MutBor}
use Rattle.std.specs.Fn.{Mut, CalledAtMut}
use Rattle.std.specs.List.{filter}
use Rattle.std.specs.Str.{bytes_eq}
use Rattle.gql_registry_meta.specs.Parts.{Text, at_text, is_among, Meta, name_of}
use Rattle.gql_registry_meta.specs.Kinds.{kind_of}
use Rattle.gql_registry_meta.specs.declared.type_id.MetaTypeId.{MetaTypeId}
use Rattle.gql_registry.specs.Registry.{Contents, with_type}
use Rattle.gql_registry.specs.Placeholders.{placeholder}
pub use Rattle.gql_registry.specs.Refusals.{Refusal, kind_conflict, name_mismatch, missing_query, out_of_memory, refusal_of, Answer, answer_of, Made, made_by}
use Rattle.gql_registry.specs.declared.registry_error.RegistryError.{RegistryError}

-- the registry with a type under its name, in the place of one that stood there
abbrev pub with_made : Contents → Meta → Contents
with_made before type = record before { types = with_type before.types type }

-- the registry with the types under other names alone
abbrev pub without : Contents → Text → Contents
without before name = record before { types = filter (λ entry. not (bytes_eq name entry.0)) before.types }

-- the same without the types under several names
abbrev pub without_all : Contents → List Text → Contents
without_all before names = record before { types = filter (λ entry. not (is_among entry.0 names)) before.types }

-- a type of this kind stands under the name
abbrev pub StandsAs : Text → MetaTypeId → Contents → Type 0
StandsAs name kind before = (type : Meta) × (at_text name before.types ≡ Some type) × (kind_of type ≡ kind)

-- What becomes of a type that was made for a name. One of that name stands there, and all else is as the maker left it; or
-- it has another name; or the memory was refused. In these two cases no type stands under the name.
pub data Kept (name : Text) (type : Meta) (left : Contents) (answer : Answer) (after : Contents) : Type 0 where
  kept : name_of type ≡ name → answer ≡ Ok tt → after ≡ with_made left type → Kept name type left answer after
  misnamed : name_of type ≢ name → answer ≡ Err (name_mismatch name (name_of type)) → after ≡ without left name → Kept name type left answer after
  lost : answer ≡ Err out_of_memory → after ≡ without left name → Kept name type left answer after

-- And what becomes of any answer of a maker: its refusal is passed on, and no type stands under the name.
abbrev pub Ended : Text → Made → Contents → Answer → Contents → Type 0
Ended name (Ok type) left answer after = Kept name type left answer after
Ended name (Err e) left answer after = (answer ≡ Err e) × (after ≡ without left name)

-- a maker of types, as a relation: the registry that it is called on, its answer, and the registry that it leaves
abbrev pub Maker : Type 1
Maker = Contents → Made → Contents → Type 0

-- How a type of this name and kind is created. One stood there, and nothing changes; one of another kind stood there, which
-- is a conflict; the memory was refused before the maker ran; or nothing stood there, and the maker ran on the registry
-- with an empty type of the kind under the name.
pub data Created (maker : Maker) (name : Text) (kind : MetaTypeId) (before : Contents) (answer : Answer) (after : Contents) : Type 0 where
  stood : StandsAs name kind before → answer ≡ Ok tt → after ≡ before → Created maker name kind before answer after
  conflict : (kept : MetaTypeId) → StandsAs name kept before → kept ≢ kind → answer ≡ Err (kind_conflict name kept kind) → after ≡ before → Created maker name kind before answer after
  no_memory : (StandsAs name kind before → ⊥) → answer ≡ Err out_of_memory → after ≡ before → Created maker name kind before answer after
  ran : at_text name before.types ≡ None → (made : Made) (left : Contents) → maker (with_made before (placeholder name kind)) made left → Ended name made left answer after → Created maker name kind before answer after

-- what the calls of a closure make, by what its registry and its types stand for
pub record makes {F R T : Type 0} (contents : R → Contents) (meta : T → Meta) (calls : Mut F (MutBor R × Unit {0}) (Result T RegistryError × (MutBor R × Unit {0}))) (f : F) (before : Contents) (made : Made) (left : Contents) : Type 0 where
  pub called_on : R
  pub stands_for : contents called_on ≡ before
  pub answer : Result T RegistryError
  pub answers : made_by meta answer ≡ made
  pub next : F
  pub leaves : R
  pub left_as : contents leaves ≡ left
  pub called : CalledAtMut calls f called_on answer next leaves

-- Whether a type of this name and kind has to be made: an empty one then stands under the name. The cases are those of
-- `Created`.
pub data Begun (name : Text) (kind : MetaTypeId) (before : Contents) (answer : Result Bool Refusal) (after : Contents) : Type 0 where
  was_there : StandsAs name kind before → answer ≡ Ok false → after ≡ before → Begun name kind before answer after
  in_conflict : (kept : MetaTypeId) → StandsAs name kept before → kept ≢ kind → answer ≡ Err (kind_conflict name kept kind) → after ≡ before → Begun name kind before answer after
  lacks_memory : (StandsAs name kind before → ⊥) → answer ≡ Err out_of_memory → after ≡ before → Begun name kind before answer after
  placed : at_text name before.types ≡ None → answer ≡ Ok true → after ≡ with_made before (placeholder name kind) → Begun name kind before answer after

-- what that call answers
abbrev pub begun_of : Result Bool RegistryError → Result Bool Refusal
begun_of (Ok needed) = Ok needed
begun_of (Err e) = Err (refusal_of e)

-- ---- types of code that stand for types of a schema

-- how such a type is created: the registry at entry, the answer, and the registry at the return
abbrev pub Creates : Type 1
Creates = Contents → Answer → Contents → Type 0

-- A copy of a type that was created: the one under its name in the registry as the creation left it. Where that is
-- refused, the refusal is passed on; and the memory for the copy may be refused.
pub data Faked (name : Text) (creates : Creates) (before : Contents) (made : Made) (after : Contents) : Type 0 where
  copied : (type : Meta) → creates before (Ok tt) after → at_text name after.types ≡ Some type → made ≡ Ok type → Faked name creates before made after
  not_created : (e : Refusal) → creates before (Err e) after → made ≡ Err e → Faked name creates before made after
  not_copied : creates before (Ok tt) after → made ≡ Err out_of_memory → Faked name creates before made after

-- `Created` for a type of code: the memory for its own name may be refused too, and then nothing changes
pub data CreatedFor (maker : Maker) (name : Text) (kind : MetaTypeId) (before : Contents) (answer : Answer) (after : Contents) : Type 0 where
  asked : Created maker name kind before answer after → CreatedFor maker name kind before answer after
  unasked : answer ≡ Err out_of_memory → after ≡ before → CreatedFor maker name kind before answer after
