use Rattle.std.proofs.Common.{map, ap, ◌∙◌}
use Rattle.std.specs.Map.{values_of}
use Rattle.gql_registry.specs.Registry.{Contents}
use Rattle.gql_registry.specs.Additions.{all_made, system_steps}
use Rattle.gql_sdl.specs.Writing.{with_directives, written_by}
use Rattle.gql_publish_load.proofs.canonical.push_directives.Goals as goal

pub add_directives-requires : goal.add_directives-requires
add_directives-requires c = c.in_ok-add_system_types.ensures.made ∙ ap (λ (before : Contents). all_made before system_steps) c.new-registry.ensures.contents

pub returns : goal.returns
returns c = λ types needs.
    c.in_ok-push_directives.ensures types needs
    ∙ ap (λ (contents : Contents). with_directives types (written_by c.args.writer.now) (values_of contents.directives)) c.in_ok-add_directives.ensures
