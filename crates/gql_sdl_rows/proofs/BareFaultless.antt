-- Owner faults do not depend on places.
use Rattle.std.proofs.Common.{◌≡◌, Bool, true, false, cond, List, [], ◌∷◌, map, Option, Some, None, refl, ap, ap₂, ◌∙◌}
use Rattle.std.specs.Prelude.{not, ◌&&◌, ◌||◌}
use Rattle.std.specs.List.{filter_map, find, list_all, list_any}
use Rattle.std.specs.Option.{option_map}
use Rattle.std.proofs.lemmas.Simd.{map-map}
use Rattle.gql_text_syntax.specs.declared.operation.OperationType.{OperationType}
use Rattle.gql_text_syntax.specs.declared.operation.OperationType.TheVariants.{Query, Subscription}
use Rattle.gql_text_lexer.specs.Forms.{is_reserved}
use Rattle.gql_text.specs.Roots.{operation_word, default_name, default_root, defines, is_schema, lines_of, root_by, root_line, root_of, same_operation}
use Rattle.gql_text.specs.WrittenRoots.{is_root}
use Rattle.gql_text.specs.declared.document.Definition.{Definition}
use Rattle.gql_text.specs.declared.document.Definition.TheVariants as definition
use Rattle.gql_text.specs.declared.document.DirectiveUse.{DirectiveUse}
use Rattle.gql_text.specs.declared.document.EnumValueDef.{EnumValueDef}
use Rattle.gql_text.specs.declared.document.FieldDef.{FieldDef}
use Rattle.gql_text.specs.declared.document.InputDef.{InputDef}
use Rattle.gql_text.specs.declared.document.RootLine.{RootLine}
use Rattle.gql_text.specs.declared.document.TypeHead.{TypeHead}
use Rattle.gql_registry_meta.specs.Parts.{Text, is_empty}
use Rattle.gql_sdl_rows.specs.Bare.{bare_use, bare_input, bare_field, bare_value, bare_line, bare_head, bare_definition}
use Rattle.gql_sdl_rows.specs.Faultless.{are_distinct, Owner, on_member, on_scalar, on_input, on_other, is_faultless_use, attribute_name, are_faultless_uses, is_faultless_default, is_faultless_input, are_faultless_inputs, is_faultless_field, are_faultless_fields, are_faultless_values, is_faultless_head, is_faultless_like, are_attributes, is_faultless_root, is_faultless_object, is_faultless, type_name, directive_name, has_one_block, has_query, are_faultless}
use Rattle.gql_sdl_rows.proofs.Empty.{all_stay}

-- names that some parts have
names_bare : {X : Type 0} (bare : X → X) (name : X → Option Text) → ((x : X) → name (bare x) ≡ name x) → (xs : List X) → filter_map name (map bare xs) ≡ filter_map name xs
names_bare bare name same [] = refl
names_bare {X} bare name same (x ∷ xs) = by_name (name x) refl (names_bare bare name same xs)
  where
    by_name : (o : Option Text) → name x ≡ o → filter_map name (map bare xs) ≡ filter_map name xs → filter_map name (map bare (x ∷ xs)) ≡ filter_map name (x ∷ xs)
    by_name None e f = rw (same x, e) f
    by_name (Some n) e f = rw (same x, e) (ap (λ (l : List Text). n ∷ l) f)

and_same : (a b c d : Bool) → a ≡ b → c ≡ d → (a && c) ≡ (b && d)
and_same a b c d e f = ap₂ (λ (x y : Bool). x && y) e f

-- ---- uses and members

uses_bare : (owner : Owner) (us : List DirectiveUse) → are_faultless_uses owner (map bare_use us) ≡ are_faultless_uses owner us
uses_bare owner us = and_same _ _ _ _ (ap are_distinct (names_bare bare_use attribute_name (λ u. refl) us)) (all_stay bare_use (is_faultless_use owner) (is_faultless_use owner) (λ u. refl) us)

input_bare : (i : InputDef) → is_faultless_input (bare_input i) ≡ is_faultless_input i
input_bare i = ap (λ (b : Bool). is_faultless_default i.default && b) (uses_bare on_member i.uses)

inputs_bare : (is : List InputDef) → are_faultless_inputs (map bare_input is) ≡ are_faultless_inputs is
inputs_bare is = and_same _ _ _ _ (ap are_distinct (map-map (λ (i : InputDef). i.name) bare_input is)) (all_stay bare_input is_faultless_input is_faultless_input input_bare is)

field_bare : (f : FieldDef) → is_faultless_field (bare_field f) ≡ is_faultless_field f
field_bare f = and_same _ _ _ _ (inputs_bare f.args) (uses_bare on_member f.uses)

fields_bare : (fs : List FieldDef) → are_faultless_fields (map bare_field fs) ≡ are_faultless_fields fs
fields_bare fs = and_same _ _ _ _ (ap are_distinct (map-map (λ (f : FieldDef). f.name) bare_field fs)) (all_stay bare_field is_faultless_field is_faultless_field field_bare fs)

values_bare : (vs : List EnumValueDef) → are_faultless_values (map bare_value vs) ≡ are_faultless_values vs
values_bare vs =
    and_same _ _ _ _ (ap are_distinct (map-map (λ (v : EnumValueDef). v.name) bare_value vs))
    (all_stay bare_value (λ v. are_faultless_uses on_member v.uses) (λ v. are_faultless_uses on_member v.uses) (λ v. uses_bare on_member v.uses) vs)

-- ---- types

head_bare : (owner : Owner) (head : TypeHead) → is_faultless_head owner (bare_head head) ≡ is_faultless_head owner head
head_bare owner head = ap (λ (b : Bool). not (is_reserved head.name) && b) (uses_bare owner head.uses)

like_bare : (head : TypeHead) (implements : List Text) (fields : List FieldDef) → is_faultless_like (bare_head head) implements (map bare_field fields) ≡ is_faultless_like head implements fields
like_bare head implements fields = ap₂ (λ (a b : Bool). not (is_reserved head.name) && (are_distinct implements && (a && b))) (uses_bare on_other head.uses) (fields_bare fields)

attributes_bare : (us : List DirectiveUse) → are_attributes (map bare_use us) ≡ are_attributes us
attributes_bare us = all_stay bare_use _ _ (λ u. refl) us

root_bare : (head : TypeHead) (implements : List Text) (fields : List FieldDef) → is_faultless_root (bare_head head) implements (map bare_field fields) ≡ is_faultless_root head implements fields
root_bare head implements fields =
    ap₂ (λ (a b : Bool). is_empty implements && (a && b)) (attributes_bare head.uses)
    (all_stay bare_field _ _ (λ (f : FieldDef). ap (λ (b : Bool). not (is_reserved f.name) && b) (attributes_bare f.uses)) fields)

object_bare : (root : Option Text) (head : TypeHead) (implements : List Text) (fields : List FieldDef) → is_faultless_object root (bare_head head) implements (map bare_field fields) ≡ is_faultless_object root head implements fields
object_bare root head implements fields = ap₂ (λ (a b : Bool). a && cond (is_root root head.name) b true) (like_bare head implements fields) (root_bare head implements fields)

definition_bare : (root : Option Text) (d : Definition) → is_faultless root (bare_definition d) ≡ is_faultless root d
definition_bare root (definition.SchemaBlock roots at) = ap are_distinct (map-map (λ (r : RootLine). operation_word r.kind) bare_line roots)
definition_bare root (definition.Scalar head) = head_bare on_scalar head
definition_bare root (definition.Object head implements fields) = object_bare root head implements fields
definition_bare root (definition.Interface head implements fields) = like_bare head implements fields
definition_bare root (definition.Union head members) = ap (λ (b : Bool). b && are_distinct members) (head_bare on_other head)
definition_bare root (definition.Enum head values) = and_same _ _ _ _ (head_bare on_other head) (values_bare values)
definition_bare root (definition.Input head fields) = and_same _ _ _ _ (head_bare on_input head) (inputs_bare fields)
definition_bare root (definition.Directive directive) = inputs_bare directive.args

-- ---- the whole document

type_name_bare : (d : Definition) → type_name (bare_definition d) ≡ type_name d
type_name_bare (definition.SchemaBlock roots at) = refl
type_name_bare (definition.Scalar head) = refl
type_name_bare (definition.Object head implements fields) = refl
type_name_bare (definition.Interface head implements fields) = refl
type_name_bare (definition.Union head members) = refl
type_name_bare (definition.Enum head values) = refl
type_name_bare (definition.Input head fields) = refl
type_name_bare (definition.Directive directive) = refl

directive_name_bare : (d : Definition) → directive_name (bare_definition d) ≡ directive_name d
directive_name_bare (definition.SchemaBlock roots at) = refl
directive_name_bare (definition.Scalar head) = refl
directive_name_bare (definition.Object head implements fields) = refl
directive_name_bare (definition.Interface head implements fields) = refl
directive_name_bare (definition.Union head members) = refl
directive_name_bare (definition.Enum head values) = refl
directive_name_bare (definition.Input head fields) = refl
directive_name_bare (definition.Directive directive) = refl

schema_bare : (d : Definition) → is_schema (bare_definition d) ≡ is_schema d
schema_bare (definition.SchemaBlock roots at) = refl
schema_bare (definition.Scalar head) = refl
schema_bare (definition.Object head implements fields) = refl
schema_bare (definition.Interface head implements fields) = refl
schema_bare (definition.Union head members) = refl
schema_bare (definition.Enum head values) = refl
schema_bare (definition.Input head fields) = refl
schema_bare (definition.Directive directive) = refl

lines_bare : (d : Definition) → lines_of (bare_definition d) ≡ map bare_line (lines_of d)
lines_bare (definition.SchemaBlock roots at) = refl
lines_bare (definition.Scalar head) = refl
lines_bare (definition.Object head implements fields) = refl
lines_bare (definition.Interface head implements fields) = refl
lines_bare (definition.Union head members) = refl
lines_bare (definition.Enum head values) = refl
lines_bare (definition.Input head fields) = refl
lines_bare (definition.Directive directive) = refl

defines_bare : (name : Text) (d : Definition) → defines name (bare_definition d) ≡ defines name d
defines_bare name (definition.SchemaBlock roots at) = refl
defines_bare name (definition.Scalar head) = refl
defines_bare name (definition.Object head implements fields) = refl
defines_bare name (definition.Interface head implements fields) = refl
defines_bare name (definition.Union head members) = refl
defines_bare name (definition.Enum head values) = refl
defines_bare name (definition.Input head fields) = refl
defines_bare name (definition.Directive directive) = refl

one_block_bare : (before : Bool) (ds : List Definition) → has_one_block before (map bare_definition ds) ≡ has_one_block before ds
one_block_bare before [] = refl
one_block_bare before (d ∷ ds) = rw (schema_bare d) (ap (λ (b : Bool). not (before && is_schema d) && b) (one_block_bare (before || is_schema d) ds))

any_bare : {X : Type 0} (bare : X → X) (test : X → Bool) → ((x : X) → test (bare x) ≡ test x) → (xs : List X) → list_any test (map bare xs) ≡ list_any test xs
any_bare bare test same [] = refl
any_bare bare test same (x ∷ xs) = ap₂ (λ (a b : Bool). a || b) (same x) (any_bare bare test same xs)

-- what is found among parts without their places
found_bare : {X : Type 0} (bare : X → X) (test : X → Bool) → ((x : X) → test (bare x) ≡ test x) → (xs : List X) → find test (map bare xs) ≡ option_map bare (find test xs)
found_bare bare test same [] = refl
found_bare {X} bare test same (x ∷ xs) = by_test (test x) refl (found_bare bare test same xs)
  where
    by_test : (t : Bool) → test x ≡ t → find test (map bare xs) ≡ option_map bare (find test xs) → find test (map bare (x ∷ xs)) ≡ option_map bare (find test (x ∷ xs))
    by_test true e f = rw (same x, e) refl
    by_test false e f = rw (same x, e) f

query_bare : (o : Option Definition) → has_query (option_map bare_definition o) ≡ has_query o
query_bare None = refl
query_bare (Some d) = rw (lines_bare d) (any_bare bare_line (λ r. same_operation Query r.kind) (λ r. refl) (lines_of d))

name_of_line : (o : Option RootLine) → option_map (λ (l : RootLine). l.name) (option_map bare_line o) ≡ option_map (λ (l : RootLine). l.name) o
name_of_line None = refl
name_of_line (Some l) = refl

line_bare : (kind : OperationType) (lines : List RootLine) → root_line kind (map bare_line lines) ≡ root_line kind lines
line_bare kind lines = ap (option_map (λ (l : RootLine). l.name)) (found_bare bare_line (λ l. same_operation kind l.kind) (λ l. refl) lines) ∙ name_of_line (find (λ (l : RootLine). same_operation kind l.kind) lines)

root_by_bare : (o : Option Definition) (kind : OperationType) (ds : List Definition) → root_by (option_map bare_definition o) kind (map bare_definition ds) ≡ root_by o kind ds
root_by_bare None kind ds = ap (default_root kind) (any_bare bare_definition (defines (default_name kind)) (defines_bare (default_name kind)) ds)
root_by_bare (Some d) kind ds = ap (root_line kind) (lines_bare d) ∙ line_bare kind (lines_of d)

-- the roots of a document do not depend on places
pub root_bare_of : (kind : OperationType) (ds : List Definition) → root_of kind (record { definitions = map bare_definition ds }) ≡ root_of kind (record { definitions = ds })
root_bare_of kind ds = ap (λ (o : Option Definition). root_by o kind (map bare_definition ds)) (found_bare bare_definition is_schema schema_bare ds) ∙ root_by_bare (find is_schema ds) kind ds

-- nor does whether its definitions have an owner fault
pub faultless_bare : (ds : List Definition) → are_faultless (map bare_definition ds) ≡ are_faultless ds
faultless_bare ds =
    and_same _ _ _ _ (ap are_distinct (names_bare bare_definition type_name type_name_bare ds))
    (and_same _ _ _ _ (ap are_distinct (names_bare bare_definition directive_name directive_name_bare ds))
    (and_same _ _ _ _ (one_block_bare false ds)
    (and_same _ _ _ _ (ap has_query (found_bare bare_definition is_schema schema_bare ds) ∙ query_bare (find is_schema ds))
    (ap (λ (root : Option Text). list_all (is_faultless root) (map bare_definition ds)) (root_bare_of Subscription ds)
    ∙ all_stay bare_definition (is_faultless (root_of Subscription (record { definitions = ds }))) (is_faultless (root_of Subscription (record { definitions = ds }))) (definition_bare (root_of Subscription (record { definitions = ds }))) ds))))
