pub use Rattle.gql_sdl_rows.specs.Bare
