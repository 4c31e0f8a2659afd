-- The text of a schema block says it.
use Rattle.std.proofs.Common.{◌≡◌, ℕ, true, List, [], ◌∷◌, ◌++◌, map, flat_map, codes, refl, sym, ap, ap₂, subst, ◌∙◌, append_assoc, Option, Some, None}
use Rattle.std.proofs.lemmas.List.{append-nil}
use Rattle.std.proofs.lemmas.Grind.{flat_map-append}
use Rattle.std.proofs.lemmas.Simd.{map-map}
use Rattle.std.specs.List.{AllByRecursion}
use Rattle.gql_grammar.specs.Form.{some, among}
use Rattle.gql_text_lexer.specs.Forms.{IsName}
use Rattle.gql_text_syntax.specs.Grammar as g
use Rattle.gql_text_syntax.specs.Sorts as sorts
use Rattle.gql_text_syntax.specs.Sorts.{code, only, name_sort}
use Rattle.gql_text_syntax.specs.declared.operation.OperationType.{OperationType}
use Rattle.gql_text_syntax.specs.declared.operation.OperationType.TheVariants.{Query, Mutation, Subscription}
use Rattle.gql_text_syntax.specs.declared.sort.Sort.TheVariants.{CloseBrace, WordSchema}
use Rattle.gql_text_syntax.specs.declared.syntax.Kind.{Kind}
use Rattle.gql_text_syntax.specs.declared.syntax.Kind.TheVariants as kinds
use Rattle.gql_text_syntax.specs.declared.syntax.Root.{Root}
use Rattle.gql_text.specs.DocumentOf.{root_line_of}
use Rattle.gql_text.specs.Roots.{operation_word}
use Rattle.gql_text.specs.declared.document.RootLine.{RootLine}
use Rattle.gql_registry_meta.specs.Parts.{Text}
use Rattle.gql_sdl_readback.proofs.Texts.{Says}
use Rattle.gql_sdl_readback.proofs.Says.{blank, blanks_behind, word_then, sign_says, sign_then, name_says, joined, nothing_then, mapped, weaken, none, many_says, some_says, SaysEach}
use Rattle.gql_sdl_readback.proofs.Lists.{AreBlank, blanks}
use Rattle.gql_sdl_view.specs.Options.{Layout}
use Rattle.gql_sdl_view.specs.Spelling.{root_text, optional_root_text, schema_text}
use Rattle.gql_sdl_rows.specs.Bare.{bare_line}
use Rattle.gql_sdl_rows.specs.Shown.{root_line, optional_line}
use Rattle.gql_sdl_rows.proofs.Each.{all_same}

-- the line that was read, apart from its place
abbrev read_line : Root → RootLine
read_line r = bare_line (root_line_of r)

-- `kind: Name`
abbrev line_text : RootLine → Text
line_text l = operation_word l.kind ++ (codes ": " ++ l.name)

word_is : (kind : OperationType) → IsName (operation_word kind) × (among (name_sort (operation_word kind)) sorts.operations ≡ true)
word_is Query = ((refl, refl), refl)
word_is Mutation = ((refl, refl), refl)
word_is Subscription = ((refl, refl), refl)

kind_is : (kind : OperationType) → g.operation_type (name_sort (operation_word kind)) ≡ kind
kind_is Query = refl
kind_is Mutation = refl
kind_is Subscription = refl

line_same : (l : RootLine) (sort : ℕ) (name : Text) → sort ≡ name_sort (operation_word l.kind) → name ≡ l.name → record { kind = g.operation_type sort; name = name; at = 0 } ≡ root_line l.kind l.name
line_same l sort name e f = rw (e, f, kind_is l.kind) refl

-- ("query" | "mutation" | "subscription") ":" Name, on a line of its own
line_says : (indent : Text) → AreBlank indent → (l : RootLine) (rest : Text) → IsName l.name → Says g.root (λ r. read_line r ≡ root_line l.kind l.name) (indent ++ (line_text l ++ codes "\n")) rest
unfolding g.root
line_says indent a l rest i =
    blanks indent a (blanks_behind (line_text l) (codes "\n") rest (refl, tt)
    (mapped (word_then sorts.operations (operation_word l.kind) (codes ": " ++ l.name) (word_is l.kind).0 (word_is l.kind).1 refl (sign_then refl refl refl (blank refl (name_says l.name _ i refl))))
    (λ p h. line_same l p.0.sort p.1.1.text h.0 h.1)))

-- ---- the lines of a block

abbrev lines_text : Text → List RootLine → Text
lines_text indent lines = flat_map (λ (l : RootLine). indent ++ (line_text l ++ codes "\n")) lines

abbrev pub AreNamed : List RootLine → Type 0
AreNamed lines = AllByRecursion (λ l. IsName l.name) lines

all_lines : (indent : Text) → AreBlank indent → (lines : List RootLine) → AreNamed lines → SaysEach g.root (λ l r. read_line r ≡ root_line l.kind l.name) (λ l. indent ++ (line_text l ++ codes "\n")) (λ r. Unit {0}) lines
all_lines indent a [] n = tt
all_lines indent a (l ∷ lines) n = (λ rest k. line_says indent a l rest n.0, all_lines indent a lines n.1)

-- Root+
lines_say : (indent : Text) → AreBlank indent → (l : RootLine) (lines : List RootLine) (rest : Text) → AreNamed (l ∷ lines) → Says (some g.root) (λ rs. map read_line rs ≡ map bare_line (l ∷ lines)) (lines_text indent (l ∷ lines)) rest
lines_say indent a l lines rest n =
    some_says g.root (λ e. no_lines l lines e) (weaken _ (many_says g.root (λ l r. read_line r ≡ root_line l.kind l.name) (λ l. indent ++ (line_text l ++ codes "\n")) (λ r. Unit {0}) (λ v r. tt) (l ∷ lines) rest
    (all_lines indent a (l ∷ lines) n) tt) (λ rs z. all_same read_line bare_line (l ∷ lines) rs z))
  where
    no_lines : (l : RootLine) (lines : List RootLine) → map read_line [] ≡ map bare_line (l ∷ lines) → ⊥
    no_lines l lines e = cc

-- "{" Root+ "}"
roots_say : (indent : Text) → AreBlank indent → (l : RootLine) (lines : List RootLine) (rest : Text) → AreNamed (l ∷ lines)
    → Says g.roots (λ rs. map read_line rs ≡ map bare_line (l ∷ lines)) (codes "{\n" ++ (lines_text indent (l ∷ lines) ++ codes "}\n")) rest
unfolding g.roots
roots_say indent a l lines rest n =
    mapped (sign_then refl refl refl (blank refl (joined (lines_text indent (l ∷ lines)) (codes "}\n") rest (lines_say indent a l lines _ n)
    (blanks_behind (codes "}") (codes "\n") rest (refl, tt) (sign_says 125 (code CloseBrace) _ refl refl refl)))))
    (λ p h. h.0)

-- a block without uses, with these lines, apart from places
abbrev pub IsBlock : List RootLine → Kind → Type 0
IsBlock lines (kinds.Schema at uses roots) = (uses ≡ []) × (map bare_line (map root_line_of roots) ≡ map bare_line lines)
IsBlock lines _ = ⊥

-- "schema" "{" Root+ "}"
block_says : (indent : Text) → AreBlank indent → (l : RootLine) (lines : List RootLine) (rest : Text) → AreNamed (l ∷ lines) → Says g.schema_block (IsBlock (l ∷ lines)) (codes "schema {\n" ++ (lines_text indent (l ∷ lines) ++ codes "}\n")) rest
unfolding g.schema_block
block_says indent a l lines rest n =
    mapped (word_then (only WordSchema) (codes "schema") (codes " {\n" ++ (lines_text indent (l ∷ lines) ++ codes "}\n")) (refl, refl) refl refl
    (blank refl (nothing_then (none g.directive_use _) (roots_say indent a l lines rest n))))
    (λ p h. (h.1.0, map-map bare_line root_line_of p.1.1 ∙ h.1.1))

-- ---- the roots of a view

root_text_is : (layout : Layout) (kind : OperationType) (name : Text) → layout.indent ++ (line_text (root_line kind name) ++ codes "\n") ≡ root_text layout (operation_word kind ++ codes ": ") name
root_text_is layout kind name =
    ap (λ (t : Text). layout.indent ++ t) (append_assoc (operation_word kind) (codes ": " ++ name) (codes "\n") ∙ sym (append_assoc (operation_word kind) (codes ": ") (name ++ codes "\n")))

optional_text_is : (layout : Layout) (kind : OperationType) (name : Option Text) (more : Text) → lines_text layout.indent (optional_line kind name) ++ more ≡ optional_root_text layout (operation_word kind ++ codes ": ") name ++ more
optional_text_is layout kind None more = refl
optional_text_is layout kind (Some name) more = ap (λ (t : Text). t ++ more) (append-nil _ ∙ root_text_is layout kind name)

view_text_is : (layout : Layout) (query : Text) (mutation subscription : Option Text)
    → codes "schema {\n" ++ (lines_text layout.indent (root_line Query query ∷ (optional_line Mutation mutation ++ optional_line Subscription subscription)) ++ codes "}\n") ≡ schema_text layout query mutation subscription
view_text_is layout query mutation subscription =
    let first : Text = layout.indent ++ (line_text (root_line Query query) ++ codes "\n") in
    let second : Text = lines_text layout.indent (optional_line Mutation mutation) in
    let third : Text = lines_text layout.indent (optional_line Subscription subscription) in
    let both : lines_text layout.indent (optional_line Mutation mutation ++ optional_line Subscription subscription) ≡ second ++ third =
    flat_map-append (λ (l : RootLine). layout.indent ++ (line_text l ++ codes "\n")) (optional_line Mutation mutation) (optional_line Subscription subscription) in
    ap (λ (t : Text). codes "schema {\n" ++ t)
    (ap (λ (t : Text). (first ++ t) ++ codes "}\n") both ∙ append_assoc first (second ++ third) (codes "}\n") ∙ ap (λ (t : Text). first ++ t) (append_assoc second third (codes "}\n"))
    ∙ ap₂ (λ (a b : Text). a ++ b) (root_text_is layout Query query)
    (optional_text_is layout Mutation mutation (third ++ codes "}\n") ∙ ap (λ (t : Text). optional_root_text layout (codes "mutation: ") mutation ++ t) (optional_text_is layout Subscription subscription (codes "}\n"))))

-- the text of the roots says a block with their lines
pub schema_says : (layout : Layout) → AreBlank layout.indent → (query : Text) (mutation subscription : Option Text) (rest : Text)
    → AreNamed (root_line Query query ∷ (optional_line Mutation mutation ++ optional_line Subscription subscription))
    → Says g.schema_block (IsBlock (root_line Query query ∷ (optional_line Mutation mutation ++ optional_line Subscription subscription))) (schema_text layout query mutation subscription) rest
schema_says layout a query mutation subscription rest n =
    let more : List RootLine = optional_line Mutation mutation ++ optional_line Subscription subscription in
    subst (λ (t : Text). Says g.schema_block (IsBlock (root_line Query query ∷ more)) t rest) (view_text_is layout query mutation subscription) (block_says layout.indent a (root_line Query query) more rest n)
