-- A merged object, part by part.
use Rattle.std.proofs.Common.{◌≡◌, true, false, List, [], None, ap, ◌∙◌}
use Rattle.std.specs.declared.result.Result.TheVariants.{Ok}
use Rattle.gql_registry_meta.specs.Parts.{Text, Field, Invocation, object}
use Rattle.gql_registry_meta.specs.declared.cache_control.CacheControl.{CacheControl}
use Rattle.gql_registry.specs.Created.{Made}
use Rattle.gql_merged.specs.Merged.{object_of}

abbrev made_of : Text → List (Text × Field) → CacheControl → List Text → List Invocation → List Text → Made
made_of name fields hint tags uses scopes = Ok (object (record {
  name = name;
  description = None;
  fields = fields;
  cache_control = hint;
  extends = false;
  shareable = false;
  resolvable = true;
  keys = None;
  visible = None;
  inaccessible = false;
  interface_object = false;
  tags = tags;
  is_subscription = false;
  directive_invocations = uses;
  requires_scopes = scopes;
}))

-- the object of these parts, where the others are empty
pub built : (name its_name : Text) (fields its_fields : List (Text × Field)) (hint its_hint : CacheControl) (tags : List Text) (uses : List Invocation) (scopes : List Text)
    → name ≡ its_name → fields ≡ its_fields → hint ≡ its_hint → tags ≡ [] → uses ≡ [] → scopes ≡ []
    → made_of name fields hint tags uses scopes ≡ Ok (object_of its_name its_fields its_hint)
built name its_name fields its_fields hint its_hint tags uses scopes n f h t u s =
    ap (λ x. made_of x fields hint tags uses scopes) n
    ∙ ap (λ x. made_of its_name x hint tags uses scopes) f
    ∙ ap (λ x. made_of its_name its_fields x tags uses scopes) h
    ∙ ap (λ x. made_of its_name its_fields its_hint x uses scopes) t
    ∙ ap (λ x. made_of its_name its_fields its_hint [] x scopes) u
    ∙ ap (λ x. made_of its_name its_fields its_hint [] [] x) s
