-- Types that are made where they are missing: what is begun and ended is created.
use Rattle.std.proofs.Common.{◌≡◌, Bool, true, false, not, cond, filter, string_bytes, List, [], ◌∷◌, refl, sym, ap, ◌∙◌, subst, Some, None, IsSome}
use Rattle.std.specs.Borrow.{MutBor}
use Rattle.std.specs.Result.{OnOk, OnErr}
use Rattle.std.specs.Ordering.{is_eq}
use Rattle.std.specs.declared.string.String.{String}
use Rattle.std.specs.declared.alloc.Global.{Global}
use Rattle.std.specs.Fn.{Mut, Called}
use Rattle.std.specs.Map.{lookup, remove_entry}
use Rattle.std.specs.Str.{bytes_eq}
use Rattle.std.specs.declared.option.Option.{Option}
use Rattle.std.specs.declared.result.Result.{Result}
use Rattle.std.specs.declared.result.Result.TheVariants.{Ok, Err}
use Rattle.gql_registry_meta.specs.Parts.{Text, at_text, text_cmp, Meta, name_of}
use Rattle.gql_registry_meta.specs.Views.{entries_of, meta_of}
use Rattle.gql_registry_meta.specs.declared.meta_type.MetaType.{MetaType}
use Rattle.gql_registry_meta.proofs.Entries.{entries_without, missing_at}
use Rattle.gql_registry_meta.specs.declared.type_id.MetaTypeId.{MetaTypeId}
use Rattle.gql_registry.specs.Maps.{StandUnderOwnNames}
use Rattle.gql_registry.specs.Registry.{Contents}
use Rattle.gql_registry.specs.Placeholders.{placeholder}
use Rattle.gql_registry.specs.declared.registry_error.RegistryError.{RegistryError}
use Rattle.gql_registry.specs.Created.{Refusal, Answer, Made, Maker, Created, stood, conflict, no_memory, ran, answer_of, made_by, makes, Kept, kept, misnamed, lost, Begun, Ended, was_there, in_conflict, lacks_memory, placed, with_made, refusal_of}
use Rattle.gql_registry.proofs.Changes.{at_text-insert}

-- ---- what is taken out

abbrev is_other : {X : Type 0} → Text → Text × X → Bool
is_other t entry = not (bytes_eq t entry.0)

module _ {X : Type 0} (t : Text) where
  -- entries none of which has the name are those of other names
  all_other : (es : List (Text × X)) → at_text t es ≡ None → es ≡ filter (is_other t) es
  all_other [] none = refl
  all_other (e ∷ es) none = by (bytes_eq t e.0) none (all_other es)
    where
      by : (b : Bool) → cond b (Some e.1) (at_text t es) ≡ None → (at_text t es ≡ None → es ≡ filter (is_other t) es)
          → e ∷ es ≡ cond (not b) (e ∷ filter (is_other t) es) (filter (is_other t) es)
      by true some rest = cc some
      by false none rest = ap (λ l. e ∷ l) (rest none)

  -- what is left, where nothing is left of the name
  pub others_left : (es : List (Text × X)) → at_text t (remove_entry (bytes_eq t) es) ≡ None → remove_entry (bytes_eq t) es ≡ filter (is_other t) es
  others_left [] none = refl
  others_left (e ∷ es) none = by (bytes_eq t e.0) refl none (others_left es)
    where
      by : (b : Bool) → bytes_eq t e.0 ≡ b → at_text t (cond b es (e ∷ remove_entry (bytes_eq t) es)) ≡ None
          → (at_text t (remove_entry (bytes_eq t) es) ≡ None → remove_entry (bytes_eq t) es ≡ filter (is_other t) es)
          → cond b es (e ∷ remove_entry (bytes_eq t) es) ≡ cond (not b) (e ∷ filter (is_other t) es) (filter (is_other t) es)
      by true p none rest = all_other es none
      by false p none rest = ap (λ l. e ∷ l) (rest (sym (ap (λ b. cond b (Some e.1) (at_text t (remove_entry (bytes_eq t) es))) p) ∙ none))

  -- nothing of the name is left
  pub none_left : (es : List (Text × X)) → at_text t (filter (is_other t) es) ≡ None
  none_left [] = refl
  none_left (e ∷ es) = by (bytes_eq t e.0) refl (none_left es)
    where
      by : (b : Bool) → bytes_eq t e.0 ≡ b → at_text t (filter (is_other t) es) ≡ None → at_text t (cond (not b) (e ∷ filter (is_other t) es) (filter (is_other t) es)) ≡ None
      by true p rest = rest
      by false p rest = ap (λ b. cond b (Some e.1) (at_text t (filter (is_other t) es))) p ∙ rest

module _ {X : Type 0} (name : X → Text) (t : Text) where
  other-cond : (b : Bool) (e : Text × X) (rest : List (Text × X)) → name e.1 ≡ e.0 → StandUnderOwnNames name rest → StandUnderOwnNames name (cond (not b) (e ∷ rest) rest)
  other-cond true e rest h own = own
  other-cond false e rest h own = (h, own)

  -- values under their own names, without those of a name
  pub own_without : (es : List (Text × X)) → StandUnderOwnNames name es → StandUnderOwnNames name (filter (is_other t) es)
  own_without [] h = tt
  own_without (e ∷ es) h = other-cond (bytes_eq t e.0) e (filter (is_other t) es) h.0 (own_without es h.1)

-- the types after one was taken out
pub types_left : {x g : _} (t : Text) (es new : List (String Global × MetaType x g)) → new ≡ remove_entry (λ k. is_eq (text_cmp t (string_bytes k))) es
    → lookup (λ k. is_eq (text_cmp t (string_bytes k))) new ≡ None → entries_of meta_of new ≡ filter (is_other t) (entries_of meta_of es)
types_left t es new e none =
    let removed : entries_of meta_of new ≡ remove_entry (bytes_eq t) (entries_of meta_of es) = ap (entries_of meta_of) e ∙ entries_without meta_of t es in
    removed ∙ others_left t (entries_of meta_of es) (ap (at_text t) (sym removed) ∙ missing_at meta_of t new (sym none))

-- ---- what was begun

-- an answer that gave no more than its error
abbrev as_answer : Result Bool Refusal → Answer
as_answer (Ok b) = Ok tt
as_answer (Err e) = Err e

module _ (maker : Maker) (name : Text) (kind : MetaTypeId) (before after : Contents) where
  -- a refusal before the maker ran
  pub refused : (e : Refusal) → Begun name kind before (Err e) after → Created maker name kind before (Err e) after
  refused e (was_there stands answer left) = cc answer
  refused e (in_conflict there stands other answer left) = conflict there stands other (ap as_answer answer) left
  refused e (lacks_memory new answer left) = no_memory new (ap as_answer answer) left
  refused e (placed none answer left) = cc answer

  -- a type that stood there
  pub stands : Begun name kind before (Ok false) after → Created maker name kind before (Ok tt) after
  stands (was_there there answer left) = stood there refl left
  stands (in_conflict other there apart answer left) = cc answer
  stands (lacks_memory new answer left) = cc answer
  stands (placed none answer left) = cc answer

-- a type that has to be made
pub missing : (name : Text) (kind : MetaTypeId) (before after : Contents) → Begun name kind before (Ok true) after → (at_text name before.types ≡ None) × (after ≡ with_made before (placeholder name kind))
missing name kind before after (was_there stands answer left) = cc answer
missing name kind before after (in_conflict other stands apart answer left) = cc answer
missing name kind before after (lacks_memory new answer left) = cc answer
missing name kind before after (placed none answer left) = (none, left)

-- ---- what is known of a type that was created

is_there : {X : Type 0} (o : Option X) (x : X) → o ≡ Some x → IsSome o
is_there o x e = subst IsSome (sym e) refl

stands_kept : (name : Text) (type : Meta) (left after : Contents) → Kept name type left (Ok tt) after → IsSome (at_text name after.types)
stands_kept name type left after (kept named answer end) =
    is_there _ type (ap (λ (contents : Contents). at_text name contents.types) end ∙ ap (λ t. at_text t (with_made left type).types) (sym named) ∙ at_text-insert (name_of type) left.types type)
stands_kept name type left after (misnamed other answer end) = cc answer
stands_kept name type left after (lost answer end) = cc answer

stands_ended : (name : Text) (made : Made) (left after : Contents) → Ended name made left (Ok tt) after → IsSome (at_text name after.types)
stands_ended name (Ok type) left after e = stands_kept name type left after e
stands_ended name (Err refusal) left after e = cc e.0

module _ (maker : Maker) (name : Text) (kind : MetaTypeId) (before after : Contents) where
  -- after Ok a type stands under the name
  pub stands_created : Created maker name kind before (Ok tt) after → IsSome (at_text name after.types)
  stands_created (stood there answer end) = is_there _ there.0 (ap (λ (contents : Contents). at_text name contents.types) end ∙ there.1)
  stands_created (conflict other there apart answer end) = cc answer
  stands_created (no_memory new answer end) = cc answer
  stands_created (ran none made left run ended) = stands_ended name made left after ended

-- ---- what is known after a refusal

gone_kept : (name : Text) (type : Meta) (left : Contents) (e : Refusal) (after : Contents) → Kept name type left (Err e) after → at_text name after.types ≡ None
gone_kept name type left e after (kept named answer end) = cc answer
gone_kept name type left e after (misnamed other answer end) = ap (λ (contents : Contents). at_text name contents.types) end ∙ none_left name left.types
gone_kept name type left e after (lost answer end) = ap (λ (contents : Contents). at_text name contents.types) end ∙ none_left name left.types

gone_ended : (name : Text) (made : Made) (left : Contents) (e : Refusal) (after : Contents) → Ended name made left (Err e) after → at_text name after.types ≡ None
gone_ended name (Ok type) left e after ended = gone_kept name type left e after ended
gone_ended name (Err refusal) left e after ended = ap (λ (contents : Contents). at_text name contents.types) ended.1 ∙ none_left name left.types

gone_refused : (maker : Maker) (name : Text) (kind : MetaTypeId) (before : Contents) (e : Refusal) (after : Contents) → Created maker name kind before (Err e) after → at_text name before.types ≡ None → at_text name after.types ≡ None
gone_refused maker name kind before e after (stood there answer end) none = cc answer
gone_refused maker name kind before e after (conflict other there apart answer end) none = ap (λ (contents : Contents). at_text name contents.types) end ∙ none
gone_refused maker name kind before e after (no_memory new answer end) none = ap (λ (contents : Contents). at_text name contents.types) end ∙ none
gone_refused maker name kind before e after (ran missing made left run ended) none = gone_ended name made left e after ended

-- no type stands under the name after a refusal, where none did before
pub gone_after : (maker : Maker) (name : Text) (kind : MetaTypeId) (before after : Contents) (r : Result (Unit {0}) RegistryError) → Created maker name kind before (answer_of r) after
    → OnErr r (at_text name before.types ≡ None → at_text name after.types ≡ None)
gone_after maker name kind before after (Ok x) created = tt
gone_after maker name kind before after (Err e) created = gone_refused maker name kind before (refusal_of e) after created

-- a type stands under the name after Ok
pub stands_if_created : (maker : Maker) (name : Text) (kind : MetaTypeId) (before after : Contents) (r : Result (Unit {0}) RegistryError) → Created maker name kind before (answer_of r) after
    → OnOk r (IsSome (at_text name after.types))
stands_if_created maker name kind before after (Ok x) created = stands_created maker name kind before after created
stands_if_created maker name kind before after (Err e) created = tt

-- ---- makers

-- a maker that does no more than another
pub created_by : (maker wider : Maker) (name : Text) (kind : MetaTypeId) (before : Contents) (answer : Answer) (after : Contents)
    → ((b : Contents) (m : Made) (l : Contents) → maker b m l → wider b m l) → Created maker name kind before answer after → Created wider name kind before answer after
created_by maker wider name kind before answer after more (stood there a end) = stood there a end
created_by maker wider name kind before answer after more (conflict other there apart a end) = conflict other there apart a end
created_by maker wider name kind before answer after more (no_memory new a end) = no_memory new a end
created_by maker wider name kind before answer after more (ran none made left run ended) = ran none made left (more _ made left run) ended

-- what each call of a closure does, it does where it makes a type
pub made_by_calls : {F R T : Type 0} (contents : R → Contents) (meta : T → Meta) (calls : Mut F (MutBor R × Unit {0}) (Result T RegistryError × (MutBor R × Unit {0}))) (f : F) (wider : Maker)
    → ((at left : MutBor R) (r : Result T RegistryError) (next : F) → Called calls f (at, tt) (r, (left, tt)) next → wider (contents at.now) (made_by meta r) (contents left.now))
    → (b : Contents) (m : Made) (l : Contents) → makes contents meta calls f b m l → wider b m l
made_by_calls contents meta calls f wider each b m l made =
    let call = made.called in
    subst (λ b. wider b m l) (ap contents call.shows ∙ made.stands_for)
    (subst (λ m. wider (contents call.shown.now) m l) made.answers
    (subst (λ l. wider (contents call.shown.now) (made_by meta made.answer) l) (ap contents call.leaves ∙ made.left_as)
    (each call.shown call.left made.answer made.next call.called)))
