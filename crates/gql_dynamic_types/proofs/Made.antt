-- What is made of entries under distinct names.
use Rattle.std.proofs.Common.{◌≡◌, List, [], sym, ap, ◌∙◌}
use Rattle.std.specs.List.{IsDistinct}
use Rattle.std.specs.Str.{bytes_eq}
use Rattle.std.specs.String.{string_eq}
use Rattle.std.specs.Map.{keys_of}
use Rattle.std.specs.declared.string.String.{String}
use Rattle.std.specs.declared.alloc.Global.{Global}
use Rattle.indexmap.specs.IndexMap.{insert_all}
use Rattle.gql_registry_meta.specs.Views.{entries_of}
use Rattle.gql_registry_meta.proofs.Entries.{entries_of-then}
use Rattle.gql_registry_meta.proofs.Distinct.{insert_all-distinct}
use Rattle.gql_dynamic_types.specs.Types.{each_meta}

-- put in each in turn, it is what is made of each
pub made_anew : {A B C : Type 0} (g : B → C) (f : A → B) (es : List (String Global × A)) → IsDistinct string_eq (keys_of es) → insert_all bytes_eq [] (each_meta g (entries_of f es)) ≡ each_meta g (entries_of f es)
made_anew g f es distinct = ap (insert_all bytes_eq []) (entries_of-then g f es) ∙ insert_all-distinct (λ a. g (f a)) es distinct ∙ sym (entries_of-then g f es)
