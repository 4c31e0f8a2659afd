-- What a registry refuses.
use Rattle.std.specs.declared.result.Result.{Result}
use Rattle.std.specs.declared.result.Result.TheVariants.{Ok, Err}
use Rattle.gql_registry_meta.specs.Parts.{Text, Meta}
use Rattle.gql_registry_meta.specs.Views.{text_of}
use Rattle.gql_registry_meta.specs.declared.type_id.MetaTypeId.{MetaTypeId}
use Rattle.gql_registry.specs.declared.registry_error.RegistryError.{RegistryError}
use Rattle.gql_registry.specs.declared.registry_error.RegistryError.TheVariants as error

-- Why a type was not created. A type of the kind that was kept stands under the name, and another kind was asked for; a
-- type of another name was made; no object stands under the name of the query root; memory ran out.
pub data Refusal : Type 0 where
  kind_conflict : (name : Text) (kept asked : MetaTypeId) → Refusal
  name_mismatch : (name made : Text) → Refusal
  missing_query : (name : Text) → Refusal
  out_of_memory : Refusal

-- the refusal that an error tells
abbrev pub refusal_of : RegistryError → Refusal
refusal_of (error.KindConflict name kept asked) = kind_conflict (text_of name) kept asked
refusal_of (error.NameMismatch name made) = name_mismatch (text_of name) (text_of made)
refusal_of (error.MissingQuery name) = missing_query (text_of name)
refusal_of error.OutOfMemory = out_of_memory

-- what a call answers that creates a type: nothing more than that it did, or a refusal
abbrev pub Answer : Type 0
Answer = Result (Unit {0}) Refusal

-- the answer that a result tells
abbrev pub answer_of : Result (Unit {0}) RegistryError → Answer
answer_of (Ok done) = Ok done
answer_of (Err e) = Err (refusal_of e)

-- what a call answers that makes a type: the type, or a refusal
abbrev pub Made : Type 0
Made = Result Meta Refusal

-- the same that a result tells, by what its type stands for
abbrev pub made_by : {T : Type 0} → (T → Meta) → Result T RegistryError → Made
made_by meta (Ok type) = Ok (meta type)
made_by meta (Err e) = Err (refusal_of e)
