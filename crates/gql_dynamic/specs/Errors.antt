-- What the errors of the code stand for.
use Rattle.std.specs.Prelude.{◌≡◌, true, List, Option, Some, None, Result, Ok, Err, IfSome, codes}
use Rattle.gql_registry_meta.specs.Parts.{Text, is_among}
use Rattle.gql_registry_meta.specs.Views.{text_of}
use Rattle.gql_check_rules.specs.Faults.{Fault, sentence}
use Rattle.gql_check_rules.specs.Faults as fault
use Rattle.gql_dynamic.specs.declared.schema_error.SchemaError.{SchemaError}
use Rattle.gql_dynamic.specs.declared.schema_error.SchemaError.TheVariants as variant

-- the broken rule that an error reports, or nothing where memory ran out
abbrev pub fault_of : SchemaError → Option Fault
fault_of (variant.AlreadyExists name) = Some (fault.already_exists (text_of name))
fault_of (variant.NotFound name) = Some (fault.not_found (text_of name))
fault_of variant.QueryRoot = Some fault.query_root
fault_of variant.MutationRoot = Some fault.mutation_root
fault_of variant.SubscriptionRoot = Some fault.subscription_root
fault_of (variant.EmptyObject ty) = Some (fault.empty_object (text_of ty))
fault_of (variant.FieldUnderscores ty field) = Some (fault.field_underscores (text_of ty) (text_of field))
fault_of (variant.ArgUnderscores ty field arg) = Some (fault.arg_underscores (text_of ty) (text_of field) (text_of arg))
fault_of (variant.FieldOutput ty field) = Some (fault.field_output (text_of ty) (text_of field))
fault_of (variant.ArgInput ty field arg) = Some (fault.arg_input (text_of ty) (text_of field) (text_of arg))
fault_of (variant.FieldInput ty field) = Some (fault.field_input (text_of ty) (text_of field))
fault_of (variant.OneOfNullable ty field) = Some (fault.one_of_nullable (text_of ty) (text_of field))
fault_of (variant.OneOfDefault ty field) = Some (fault.one_of_default (text_of ty) (text_of field))
fault_of (variant.InputCycle ty) = Some (fault.input_cycle (text_of ty))
fault_of (variant.NotInterface name) = Some (fault.not_interface (text_of name))
fault_of (variant.MissingField kind ty field interface) = Some (fault.missing_field kind (text_of ty) (text_of field) (text_of interface))
fault_of (variant.MissingArgument ty field arg interface) = Some (fault.missing_argument (text_of ty) (text_of field) (text_of arg) (text_of interface))
fault_of (variant.ArgType ty field arg interface) = Some (fault.arg_type (text_of ty) (text_of field) (text_of arg) (text_of interface))
fault_of (variant.FieldType ty field interface) = Some (fault.field_type (text_of ty) (text_of field) (text_of interface))
fault_of (variant.ImplementsItself ty) = Some (fault.implements_itself (text_of ty))
fault_of (variant.MemberNotObject ty member) = Some (fault.member_not_object (text_of ty) (text_of member))
fault_of variant.OutOfMemory = None

-- the sentence of a broken rule, or of memory that ran out
abbrev pub fault_text : Option Fault → Text
fault_text (Some fault) = sentence fault
fault_text None = codes "out of memory"

-- the sentence that reports an error
abbrev pub message_of : SchemaError → Text
message_of error = fault_text (fault_of error)

-- the result reports the first broken rule, unless memory ran out
abbrev pub Tells : {T : Type 0} → Result T SchemaError → Option Fault → Type 0
Tells (Ok x) first = first ≡ None
Tells (Err error) first = IfSome (fault_of error) (λ fault. first ≡ Some fault)

-- the error reports that the name is among the names, unless memory ran out
abbrev pub TellsExisting : Text → List Text → SchemaError → Type 0
TellsExisting name names error = IfSome (fault_of error) (λ reported. (reported ≡ fault.already_exists name) × (is_among name names ≡ true))
