use Rattle.std.proofs.Common.{rules, ◌≡◌}
use Rattle.std.specs.Option.{option_copied}
use Rattle.gql_sdl_view.specs.Options.{layout_of}
use Rattle.gql_sdl_text.specs.Views.{layout_view}
use Rattle.gql_sdl.specs.Values.{options_of, view_in}
use Rattle.gql_sdl.proofs.Texts.{spelled_from}
use Rattle.gql_sdl.proofs.printing.spell.Goals as goal

pub returns : goal.returns
returns g c =
    let view = view_in c.args.view.now in
    let mutation : option_copied c.as_deref.result ≡ view.mutation = search rules in
    let subscription : option_copied c.as_deref-2.result ≡ view.subscription = search rules in
    spelled_from (layout_view c.in_ok-layout.layout) (layout_of (options_of c.args.options)) view _ _ _ _ _ _ _
    c.new-out.ensures.bytes c.in_ok-push_types.ensures c.in_ok-push_directives.ensures c.in_ok-push_schema_block.ensures
    c.as_str.ensures.value mutation subscription c.in_ok-layout.ensures
