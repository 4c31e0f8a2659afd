-- The roots that are found in a written tree are those of its document.
use Rattle.std.proofs.Common.{◌≡◌, ℕ, Bool, true, false, cond, List, [], ◌∷◌, map, Some, None, refl, ap, ap₂, ◌∙◌}
use Rattle.std.specs.Prelude.{◌||◌}
use Rattle.std.specs.List.{find, list_any}
use Rattle.std.specs.Option.{option_map}
use Rattle.std.specs.declared.option.Option.{Option}
use Rattle.gql_text_syntax.specs.declared.operation.OperationType.{OperationType}
use Rattle.gql_text_syntax.specs.declared.syntax.Description.{Description}
use Rattle.gql_text_syntax.specs.declared.syntax.Kind.{Kind}
use Rattle.gql_text_syntax.specs.declared.syntax.Kind.TheVariants as kind
use Rattle.gql_text_syntax.specs.declared.syntax.Root.{Root}
use Rattle.gql_text_syntax.specs.declared.syntax.WrittenDefinition.{WrittenDefinition}
use Rattle.gql_text.specs.DocumentOf.{definition_of, document_of, kind_of, root_line_of}
use Rattle.gql_text.specs.Roots as r
use Rattle.gql_text.specs.Roots.{default_name, default_root, same_operation}
use Rattle.gql_text.specs.WrittenRoots as w

schema_stays : (d : Option Description) (k : Kind) → r.is_schema (kind_of d k) ≡ w.is_schema k
schema_stays d (kind.Schema at uses roots) = refl
schema_stays d (kind.Scalar key uses) = refl
schema_stays d (kind.Object o) = refl
schema_stays d (kind.Interface o) = refl
schema_stays d (kind.Union key uses members) = refl
schema_stays d (kind.Enum key uses values) = refl
schema_stays d (kind.Input key uses fields) = refl
schema_stays d (kind.Directive key arguments repeatable locations) = refl

lines_stay : (d : Option Description) (k : Kind) → r.lines_of (kind_of d k) ≡ map root_line_of (w.roots_of k)
lines_stay d (kind.Schema at uses roots) = refl
lines_stay d (kind.Scalar key uses) = refl
lines_stay d (kind.Object o) = refl
lines_stay d (kind.Interface o) = refl
lines_stay d (kind.Union key uses members) = refl
lines_stay d (kind.Enum key uses values) = refl
lines_stay d (kind.Input key uses fields) = refl
lines_stay d (kind.Directive key arguments repeatable locations) = refl

name_stays : (name : List ℕ) (d : Option Description) (k : Kind) → r.defines name (kind_of d k) ≡ w.defines name k
name_stays name d (kind.Schema at uses roots) = refl
name_stays name d (kind.Scalar key uses) = refl
name_stays name d (kind.Object o) = refl
name_stays name d (kind.Interface o) = refl
name_stays name d (kind.Union key uses members) = refl
name_stays name d (kind.Enum key uses values) = refl
name_stays name d (kind.Input key uses fields) = refl
name_stays name d (kind.Directive key arguments repeatable locations) = refl

chosen : {A B : Type 0} (f : A → B) (b : Bool) (x : A) (rest : Option A) (more : Option B) → more ≡ option_map f rest → cond b (Some (f x)) more ≡ option_map f (cond b (Some x) rest)
chosen f true x rest more e = refl
chosen f false x rest more e = e

-- what is found after a change of each item that keeps the test
found_stays : {A B : Type 0} (f : A → B) (p : A → Bool) (q : B → Bool) (same : (x : A) → q (f x) ≡ p x) (xs : List A) → find q (map f xs) ≡ option_map f (find p xs)
found_stays f p q same [] = refl
found_stays f p q same (x ∷ xs) = rw (same x) (chosen f (p x) x (find p xs) (find q (map f xs)) (found_stays f p q same xs))

any_stays : {A B : Type 0} (f : A → B) (p : A → Bool) (q : B → Bool) (same : (x : A) → q (f x) ≡ p x) (xs : List A) → list_any q (map f xs) ≡ list_any p xs
any_stays f p q same [] = refl
any_stays f p q same (x ∷ xs) = ap₂ (λ a b. a || b) (same x) (any_stays f p q same xs)

name_of_line : (o : Option Root) → option_map (λ line. line.name) (option_map root_line_of o) ≡ option_map (λ r. r.name) o
name_of_line None = refl
name_of_line (Some x) = refl

line_stays : (operation : OperationType) (roots : List Root) → r.root_line operation (map root_line_of roots) ≡ w.written_line operation roots
line_stays operation roots =
    ap (option_map (λ line. line.name)) (found_stays root_line_of (λ x. same_operation operation x.kind) (λ x. same_operation operation x.kind) (λ x. refl) roots)
    ∙ name_of_line (find (λ x. same_operation operation x.kind) roots)

by_schema : (o : Option WrittenDefinition) (operation : OperationType) (ds : List WrittenDefinition) → r.root_by (option_map definition_of o) operation (map definition_of ds) ≡ w.root_by o operation ds
by_schema None operation ds = ap (default_root operation) (any_stays definition_of (λ d. w.defines (default_name operation) d.kind) (r.defines (default_name operation)) (λ d. name_stays (default_name operation) d.description d.kind) ds)
by_schema (Some d) operation ds = ap (r.root_line operation) (lines_stay d.description d.kind) ∙ line_stays operation (w.roots_of d.kind)

pub root_stays : (operation : OperationType) (ds : List WrittenDefinition) → r.root_of operation (document_of ds) ≡ w.root_by (w.first_schema ds) operation ds
root_stays operation ds =
    ap (λ o. r.root_by o operation (map definition_of ds)) (found_stays definition_of (λ d. w.is_schema d.kind) r.is_schema (λ d. schema_stays d.description d.kind) ds)
    ∙ by_schema (w.first_schema ds) operation ds
