-- The definitions of a sample text have no owner fault.
use Rattle.std.proofs.Common.{◌≡◌, ℕ, zero, suc, ◌-◌, ◌<◌, ◌^◌, Bool, true, false, List, [], ◌∷◌, Option, Some, None, codes, refl, ap, ◌∙◌, arith, rules}
use Rattle.std.specs.Prelude.{◌&&◌}
use Rattle.std.specs.List.{AllByRecursion, filter_map, find, list_all, list_any}
use Rattle.gql_text_lexer.specs.Forms.{is_reserved}
use Rattle.gql_text_syntax.specs.declared.operation.OperationType.{OperationType}
use Rattle.gql_text_syntax.specs.declared.operation.OperationType.TheVariants.{Mutation, Query, Subscription}
use Rattle.gql_text_values.specs.declared.const_value.ConstValue.TheFolds.{the_lemmas}
use Rattle.gql_text.specs.Owners.{Names, no_names, with_seen_name}
use Rattle.gql_text.specs.Roots.{default_name, defines, is_schema, root_of}
use Rattle.gql_text.specs.declared.document.Definition.{Definition}
use Rattle.gql_registry_meta.specs.Parts.{Text}
use Rattle.gql_sdl_rows.specs.Faultless.{are_distinct, are_faultless, are_new, directive_name, has_distinct_keys, has_one_block, has_query, is_faultless, type_name}
use Rattle.gql_publish_sample.specs.Sample.{Kind, object, interface, enum, input, kind_at, name_at}
use Rattle.gql_publish_sample.proofs.Definitions.{definition_of, definitions, minus_one, root, types}
use Rattle.gql_publish_sample.proofs.Names.{names_differ}

-- what holds of a type of each kind holds of all types
all_types : (P : Definition → Type 0) → ((k : Kind) (name other : Text) → P (definition_of k name other)) → (n : ℕ) → AllByRecursion P (types n)
unfolding types
all_types P h zero = tt
all_types P h (suc i) = (h (kind_at i) (name_at i) (name_at (i - 1)), all_types P h i)

-- ---- no schema block and no directive

no_block : (k : Kind) (name other : Text) → is_schema (definition_of k name other) ≡ false
no_block object name other = refl
no_block interface name other = refl
no_block enum name other = refl
no_block input name other = refl

no_directive : (k : Kind) (name other : Text) → directive_name (definition_of k name other) ≡ None
no_directive object name other = refl
no_directive interface name other = refl
no_directive enum name other = refl
no_directive input name other = refl

one_block : (ds : List Definition) → AllByRecursion (λ d. is_schema d ≡ false) ds → has_one_block false ds ≡ true
one_block [] a = refl
one_block (d ∷ ds) a = rw a.0 (one_block ds a.1)

none_found : (ds : List Definition) → AllByRecursion (λ d. is_schema d ≡ false) ds → find is_schema ds ≡ None
none_found [] a = refl
none_found (d ∷ ds) a = rw a.0 (none_found ds a.1)

none_named : (ds : List Definition) → AllByRecursion (λ d. directive_name d ≡ None) ds → filter_map directive_name ds ≡ []
none_named [] a = refl
none_named (d ∷ ds) a = rw a.0 (none_named ds a.1)

-- ---- names

-- the names of the types
unfoldable names : ℕ → List Text
names zero = []
names (suc i) = name_at i ∷ names i

type_named : (k : Kind) (name other : Text) → type_name (definition_of k name other) ≡ Some name
type_named object name other = refl
type_named interface name other = refl
type_named enum name other = refl
type_named input name other = refl

names_are : (n : ℕ) → filter_map type_name (types n) ≡ names n
unfolding types names
names_are zero = refl
names_are (suc i) = rw (type_named (kind_at i) (name_at i) (name_at (i - 1))) (ap (λ (ns : List Text). name_at i ∷ ns) (names_are i))

all_new : (n : ℕ) (seen : Names) → n < 2 ^ 64 → ((j : ℕ) → j < n → seen (name_at j) ≡ false) → are_new seen (names n) ≡ true
unfolding names
all_new zero seen l h = refl
all_new (suc i) seen l h =
    rw (h i (omega arith)) (all_new i (with_seen_name (name_at i) seen) (omega arith) (λ j m. rw (names_differ i j (omega arith) (omega arith) (λ e. absurd (omega arith))) (h j (omega arith))))

-- ---- roots

-- no type is a root
no_root : (kind : OperationType) (k : Kind) (i : ℕ) (other : Text) → defines (default_name kind) (definition_of k (name_at i) other) ≡ false
no_root Query object i other = refl
no_root Mutation object i other = refl
no_root Subscription object i other = refl
no_root kind interface i other = refl
no_root kind enum i other = refl
no_root kind input i other = refl

no_roots : (kind : OperationType) (n : ℕ) → list_any (defines (default_name kind)) (types n) ≡ false
unfolding types
no_roots kind zero = refl
no_roots kind (suc i) = rw (no_root kind (kind_at i) i (name_at (i - 1))) (no_roots kind i)

no_blocks : (n : ℕ) → AllByRecursion (λ d. is_schema d ≡ false) (types n)
no_blocks n = all_types (λ d. is_schema d ≡ false) no_block n

pub query_is : (n : ℕ) → root_of Query (record { definitions = definitions n }) ≡ Some (codes "Query")
query_is n = rw (none_found (types n) (no_blocks n)) refl

pub mutation_is : (n : ℕ) → root_of Mutation (record { definitions = definitions n }) ≡ None
mutation_is n = rw (none_found (types n) (no_blocks n), no_roots Mutation n) refl

pub subscription_is : (n : ℕ) → root_of Subscription (record { definitions = definitions n }) ≡ None
subscription_is n = rw (none_found (types n) (no_blocks n), no_roots Subscription n) refl

-- ---- each definition

minus_one_faultless : has_distinct_keys minus_one ≡ true
minus_one_faultless = search (rules, the_lemmas)

type_faultless : (k : Kind) (i : ℕ) (other : Text) → is_faultless None (definition_of k (name_at i) other) ≡ true
unfolding is_reserved
type_faultless object i other = refl
type_faultless interface i other = refl
type_faultless enum i other = refl
type_faultless input i other = rw minus_one_faultless refl

types_faultless : (n : ℕ) → list_all (is_faultless None) (types n) ≡ true
unfolding types
types_faultless zero = refl
types_faultless (suc i) = rw (type_faultless (kind_at i) i (name_at (i - 1))) (types_faultless i)

root_faultless : is_faultless None root ≡ true
unfolding is_reserved
root_faultless = refl

-- ---- all definitions

all_true : (a b c d e : Bool) → a ≡ true → b ≡ true → c ≡ true → d ≡ true → e ≡ true → a && (b && (c && (d && e))) ≡ true
all_true a b c d e h i j k l = rw (h, i, j, k, l) refl

names_distinct : (n : ℕ) → n < 2 ^ 64 → are_distinct (filter_map type_name (definitions n)) ≡ true
names_distinct n l = ap (λ (ns : List Text). are_distinct (codes "Query" ∷ ns)) (names_are n) ∙ all_new n (with_seen_name (codes "Query") no_names) l (λ j m. refl)

each_faultless : (n : ℕ) → list_all (is_faultless None) (definitions n) ≡ true
each_faultless n = ap (λ (b : Bool). b && list_all (is_faultless None) (types n)) root_faultless ∙ types_faultless n

pub faultless : (n : ℕ) → n < 2 ^ 64 → are_faultless (definitions n) ≡ true
faultless n l =
    all_true _ _ _ _ _ (names_distinct n l)
    (ap are_distinct (none_named (types n) (all_types (λ d. directive_name d ≡ None) no_directive n)))
    (one_block (types n) (no_blocks n))
    (ap has_query (none_found (types n) (no_blocks n)))
    (ap (λ (r : Option Text). list_all (is_faultless r) (definitions n)) (subscription_is n) ∙ each_faultless n)
