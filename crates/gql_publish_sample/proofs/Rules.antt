-- The definitions of a sample text break no rule.
use Rattle.std.proofs.Common.{◌≡◌, inl, inr, ℕ, zero, suc, ◌-◌, ◌%◌, ◌<◌, ◌≤◌, ◌^◌, Bool, true, false, List, [], ◌∷◌, map, Option, Some, None, codes, refl, sym, ap, ap₂, ◌∙◌, arith, rules}
use Rattle.std.specs.Prelude.{◌==◌, if◌then◌else◌}
use Rattle.std.specs.List.{filter_map}
use Rattle.std.proofs.lemmas.Bool.{cases_lt, false_from_ne_true}
use Rattle.std.proofs.lemmas.Bool.Decides.{nat_tests}
use Rattle.gql_text_lexer.specs.Forms.{is_reserved}
use Rattle.gql_text_syntax.specs.declared.operation.OperationType.TheVariants.{Mutation, Query, Subscription}
use Rattle.gql_text_values.specs.TypeRefs.{named, non_null, reference}
use Rattle.gql_text_values.specs.declared.type_ref.TypeRef.TheFolds.{the_lemmas}
use Rattle.gql_text_values.specs.declared.type_ref.TypeRef.TheVariants as refs
use Rattle.gql_text.specs.Roots.{root_of}
use Rattle.gql_text.specs.declared.document.Definition.{Definition as Written}
use Rattle.gql_text.specs.declared.document.Document.{Document}
use Rattle.gql_registry_meta.specs.Parts.{Text, at_text}
use Rattle.gql_dynamic.specs.SchemaTypes.{TypeParts, type_name}
use Rattle.gql_check_rules.specs.Faults.{Fault}
use Rattle.gql_check_rules.specs.InputCycles.{Reaches, directly, through, needs, reaches_itself}
use Rattle.gql_check_rules.specs.Rules.{existence_fault, first_fault, input_fault, interface_fault, name_fault, object_fault, roots_fault, type_missing, union_fault}
use Rattle.gql_check_rules.specs.Schema.{Definition, Schema, is_system_scalar, names_input, exists}
use Rattle.gql_check_rules.specs.Schema as rule
use Rattle.gql_check_rules.specs.Tests.{first_in, first_of, or_else}
use Rattle.gql_check_rules.proofs.Reaching.{reaches-decides}
use Rattle.gql_check_code.specs.Definitions.{definition, each_of}
use Rattle.gql_publish_document.specs.Document.{document_schema, document_types, entry_of}
use Rattle.gql_publish_document.specs.Types.{type_in}
use Rattle.gql_publish_sample.specs.Sample.{Kind, object, interface, enum, input, kind_at, name_at}
use Rattle.gql_publish_sample.proofs.Definitions.{definition_of, definitions, required, root, types}
use Rattle.gql_publish_sample.proofs.Faultless.{subscription_is}
use Rattle.gql_publish_sample.proofs.Names.{name_same, names_differ}

-- ---- what the rules look at

-- a type of each kind
abbrev pub rule_of : Kind → Text → Definition
rule_of object other = rule.object ((codes "b", record { ty = named (codes "Int"); arguments = [] }) ∷ (codes "a", record { ty = named (codes "Query"); arguments = [] }) ∷ []) [] false
rule_of interface other = rule.interface ((codes "a", record { ty = named (codes "Query"); arguments = [] }) ∷ []) []
rule_of enum other = rule.enum
rule_of input other = rule.input_object ((codes "b", record { ty = non_null (named other); has_default = false }) ∷ (codes "a", record { ty = named (codes "Int"); has_default = true }) ∷ []) false

abbrev pub rule_at : ℕ → Definition
rule_at i = rule_of (kind_at i) (name_at (i - 1))

abbrev pub root_rule : Definition
root_rule = rule.object ((codes "v", record { ty = named (codes "Int"); arguments = [] }) ∷ []) [] false

-- the first types, each under its name
unfoldable pub entries : ℕ → List (Text × Definition)
entries zero = []
entries (suc i) = (name_at i, rule_at i) ∷ entries i

-- all types and the roots
abbrev pub schema_of : ℕ → Schema
schema_of n = record { types = (codes "Query", root_rule) ∷ entries n; query = codes "Query"; mutation = None; subscription = None }

named_is : (name : Text) → reference (refs.Named name) ≡ named name
named_is name = search (rules, the_lemmas)

required_is : (name : Text) → reference (required name) ≡ non_null (named name)
required_is name = search (rules, the_lemmas)

one_more : (d : Written) (parts : TypeParts) (entry : Text × Definition) (ds : List Written) (more : List (Text × Definition)) → type_in None d ≡ Some parts → (type_name parts, definition parts) ≡ entry
    → each_of definition (map entry_of (filter_map (type_in None) ds)) ≡ more → each_of definition (map entry_of (filter_map (type_in None) (d ∷ ds))) ≡ entry ∷ more
one_more d parts entry ds more e f g = rw e (ap₂ (λ (x : Text × Definition) (xs : List (Text × Definition)). x ∷ xs) f g)

type_more : (k : Kind) (name other : Text) (ds : List Written) (more : List (Text × Definition)) → each_of definition (map entry_of (filter_map (type_in None) ds)) ≡ more
    → each_of definition (map entry_of (filter_map (type_in None) (definition_of k name other ∷ ds))) ≡ (name, rule_of k other) ∷ more
type_more object name other ds more e = one_more (definition_of object name other) _ (name, rule_of object other) ds more refl (rw (named_is (codes "Int"), named_is (codes "Query")) refl) e
type_more interface name other ds more e = one_more (definition_of interface name other) _ (name, rule_of interface other) ds more refl (rw (named_is (codes "Query")) refl) e
type_more enum name other ds more e = one_more (definition_of enum name other) _ (name, rule_of enum other) ds more refl refl e
type_more input name other ds more e = one_more (definition_of input name other) _ (name, rule_of input other) ds more refl (rw (named_is (codes "Int"), required_is other) refl) e

types_are : (n : ℕ) → each_of definition (map entry_of (filter_map (type_in None) (types n))) ≡ entries n
unfolding types entries
types_are zero = refl
types_are (suc i) = type_more (kind_at i) (name_at i) (name_at (i - 1)) (types i) (entries i) (types_are i)

all_are : (n : ℕ) → each_of definition (map entry_of (filter_map (type_in None) (definitions n))) ≡ (codes "Query", root_rule) ∷ entries n
all_are n = one_more root _ (codes "Query", root_rule) (types n) (entries n) refl (rw (named_is (codes "Int")) refl) (types_are n)

-- the schema of a document with these types and roots
schema_with : (d : Document) (n : ℕ) → document_types d ≡ document_types (record { definitions = definitions n }) → root_of Query d ≡ Some (codes "Query") → root_of Mutation d ≡ None → root_of Subscription d ≡ None
    → document_schema d ≡ schema_of n
schema_with d n t q m s =
    let same : document_types d ≡ filter_map (type_in None) (definitions n) = t ∙ ap (λ (r : Option Text). filter_map (type_in r) (definitions n)) (subscription_is n) in
    rw (same, all_are n, q, m, s) refl

-- ---- what stands under a name

type_found : (n i : ℕ) → i < n → n < 2 ^ 64 → at_text (name_at i) (entries n) ≡ Some (rule_at i)
unfolding entries
type_found zero i l m = absurd (omega arith)
type_found (suc k) i l m = elim (cases_lt i k) [
  | inl less ↦ rw (names_differ i k (omega arith) (omega arith) (λ e. absurd (omega arith))) (type_found k i less (omega arith))
  | inr not_less ↦ let same : i ≡ k = omega arith in rw (same, name_same k) refl
]

rest_of : (i : ℕ) (a b c : Bool) → (if a then object else (if b then interface else (if c then enum else input))) ≡ input → (a ≡ false) × (b ≡ false) × (c ≡ false)
rest_of i true b c e = cc
rest_of i false true c e = cc
rest_of i false false true e = cc
rest_of i false false false e = (refl, refl, refl)

enum_before : (i : ℕ) → input ≡ kind_at i → (0 < i) × (kind_at (i - 1) ≡ enum)
enum_before i e =
    let r = rest_of i (i % 4 == 0) (i % 4 == 1) (i % 4 == 2) (sym e) in
    let is_three : i % 4 ≡ 3 = grind (arith, nat_tests) in
    let is_two : (i - 1) % 4 ≡ 2 = omega arith in
    (omega arith, rw is_two refl)

module _ (n : ℕ) (l : n < 2 ^ 64) where
  -- the enum that an input object needs
  other_found : (i : ℕ) → i < n → input ≡ kind_at i → at_text (name_at (i - 1)) (schema_of n).types ≡ Some rule.enum
  other_found i m e =
      let b = enum_before i e in
      type_found n (i - 1) (omega arith) l ∙ ap (λ (k : Kind). Some (rule_of k (name_at (i - 1 - 1)))) b.1

  self_found : (i : ℕ) → i < n → (k : Kind) → k ≡ kind_at i → at_text (name_at i) (schema_of n).types ≡ Some (rule_of k (name_at (i - 1)))
  self_found i m k e = type_found n i m l ∙ ap (λ (k : Kind). Some (rule_of k (name_at (i - 1)))) (sym e)

  -- ---- tests

  later : (test : Text × Definition → Option Fault) (x : Text × Definition) (xs : List (Text × Definition)) → test x ≡ None → first_in test xs ≡ None → first_in test (x ∷ xs) ≡ None
  later test x xs e f = rw (e, f) refl

  none_in : (test : Text × Definition → Option Fault) → ((i : ℕ) → i < n → (k : Kind) → k ≡ kind_at i → test (name_at i, rule_of k (name_at (i - 1))) ≡ None) → (m : ℕ) → m ≤ n → first_in test (entries m) ≡ None
  unfolding entries
  none_in test h zero m = refl
  none_in test h (suc i) m = later test _ (entries i) (h i (omega arith) (kind_at i) refl) (none_in test h i (omega arith))

  no_name : (i : ℕ) → i < n → (k : Kind) → k ≡ kind_at i → name_fault (name_at i, rule_of k (name_at (i - 1))) ≡ None
  unfolding is_system_scalar
  no_name i m k e = refl

  other_exists : (i : ℕ) → i < n → input ≡ kind_at i → exists (schema_of n) (name_at (i - 1)) ≡ true
  unfolding is_system_scalar
  other_exists i m e = rw (other_found i m e) refl

  other_is_input : (i : ℕ) → i < n → input ≡ kind_at i → names_input (schema_of n) (name_at (i - 1)) ≡ true
  unfolding is_system_scalar
  other_is_input i m e = rw (other_found i m e) refl

  no_missing : (i : ℕ) → i < n → (k : Kind) → k ≡ kind_at i → type_missing (schema_of n) (name_at i, rule_of k (name_at (i - 1))) ≡ None
  unfolding is_system_scalar
  no_missing i m object e = refl
  no_missing i m interface e = refl
  no_missing i m enum e = refl
  no_missing i m input e = rw (other_exists i m e) refl

  no_object : (i : ℕ) → i < n → (k : Kind) → k ≡ kind_at i → object_fault (schema_of n) (name_at i, rule_of k (name_at (i - 1))) ≡ None
  unfolding is_system_scalar is_reserved
  no_object i m object e = refl
  no_object i m interface e = refl
  no_object i m enum e = refl
  no_object i m input e = refl

  no_interface : (i : ℕ) → i < n → (k : Kind) → k ≡ kind_at i → interface_fault (schema_of n) (name_at i, rule_of k (name_at (i - 1))) ≡ None
  unfolding is_system_scalar is_reserved
  no_interface i m object e = refl
  no_interface i m interface e = refl
  no_interface i m enum e = refl
  no_interface i m input e = refl

  no_union : (i : ℕ) → i < n → (k : Kind) → k ≡ kind_at i → union_fault (schema_of n) (name_at i, rule_of k (name_at (i - 1))) ≡ None
  no_union i m object e = refl
  no_union i m interface e = refl
  no_union i m enum e = refl
  no_union i m input e = refl

  -- ---- input objects

  needs_none : (i : ℕ) → i < n → input ≡ kind_at i → needs (schema_of n) (name_at i) ≡ []
  needs_none i m e = rw (self_found i m input e, other_found i m e) refl

  not_reached : (goal name : Text) → needs (schema_of n) name ≡ [] → Reaches (schema_of n) goal name → ⊥
  not_reached goal _ e (directly name h) = let none : false ≡ true = rw e at h in absurd cc
  not_reached goal _ e (through name next h more) = let none : false ≡ true = rw e at h in absurd cc

  no_cycle : (i : ℕ) → i < n → input ≡ kind_at i → reaches_itself (schema_of n) (name_at i) ≡ false
  no_cycle i m e = false_from_ne_true _ (λ t. not_reached (name_at i) (name_at i) (needs_none i m e) ((reaches-decides (schema_of n) (name_at i) (name_at i)).0 t))

  no_input : (i : ℕ) → i < n → (k : Kind) → k ≡ kind_at i → input_fault (schema_of n) (name_at i, rule_of k (name_at (i - 1))) ≡ None
  unfolding is_system_scalar is_reserved
  no_input i m object e = refl
  no_input i m interface e = refl
  no_input i m enum e = refl
  no_input i m input e = rw (other_is_input i m e, no_cycle i m e) refl

  -- ---- the query root

  root_missing_none : type_missing (schema_of n) (codes "Query", root_rule) ≡ None
  unfolding is_system_scalar
  root_missing_none = refl

  root_object_none : object_fault (schema_of n) (codes "Query", root_rule) ≡ None
  unfolding is_system_scalar is_reserved
  root_object_none = refl

  root_name_none : name_fault (codes "Query", root_rule) ≡ None
  unfolding is_system_scalar
  root_name_none = refl

  roots_none : roots_fault (schema_of n) ≡ None
  unfolding is_system_scalar
  roots_none = refl

  existence_none : existence_fault (schema_of n) ≡ None
  unfolding is_system_scalar
  existence_none = ap (λ (x : Option Fault). or_else x None) (later (type_missing (schema_of n)) (codes "Query", root_rule) (entries n) root_missing_none (none_in (type_missing (schema_of n)) no_missing n (omega arith)))

  all_none : (a b c d e f g : Option Fault) → a ≡ None → b ≡ None → c ≡ None → d ≡ None → e ≡ None → f ≡ None → g ≡ None → first_of (a ∷ b ∷ c ∷ d ∷ e ∷ f ∷ g ∷ []) ≡ None
  all_none a b c d e f g ea eb ec ed ee ef eg = rw (ea, eb, ec, ed, ee, ef, eg) refl

  pub no_fault : first_fault (schema_of n) ≡ None
  no_fault =
      all_none _ _ _ _ _ _ _
      (later name_fault (codes "Query", root_rule) (entries n) root_name_none (none_in name_fault no_name n (omega arith)))
      existence_none
      roots_none
      (later (object_fault (schema_of n)) (codes "Query", root_rule) (entries n) root_object_none (none_in (object_fault (schema_of n)) no_object n (omega arith)))
      (later (input_fault (schema_of n)) (codes "Query", root_rule) (entries n) refl (none_in (input_fault (schema_of n)) no_input n (omega arith)))
      (later (interface_fault (schema_of n)) (codes "Query", root_rule) (entries n) refl (none_in (interface_fault (schema_of n)) no_interface n (omega arith)))
      (later (union_fault (schema_of n)) (codes "Query", root_rule) (entries n) refl (none_in (union_fault (schema_of n)) no_union n (omega arith)))

-- a document with these types and roots breaks no rule
pub keeps_rules : (d : Document) (n : ℕ) → n < 2 ^ 64 → document_types d ≡ document_types (record { definitions = definitions n }) → root_of Query d ≡ Some (codes "Query") → root_of Mutation d ≡ None → root_of Subscription d ≡ None
    → first_fault (document_schema d) ≡ None
keeps_rules d n l t q m s = ap first_fault (schema_with d n t q m s) ∙ no_fault n l
