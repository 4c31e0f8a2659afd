use Rattle.std.proofs.Common.{ap, sym, subst}
use Rattle.gql_registry_meta.specs.Parts.{name_of}
use Rattle.gql_registry.specs.Maps.{types_in, HaveOwnNames}
use Rattle.gql_registry.specs.Registry.{registry_of}
use Rattle.gql_registry.proofs.Making.{own_without, types_left}
use Rattle.gql_registry.proofs.registry.Registry.take_out.Goals as goal

pub returns : goal.returns
returns g c =
    ap (λ types. record (registry_of c.args.self.now) { types = types })
    (types_left c.args.name.now c.args.self.now.types.entries _ c.remove.ensures.entries c.remove.ensures.updates.1)

pub invariant_of-self-clause-own_types : goal.invariant_of-self-clause-own_types
invariant_of-self-clause-own_types g c =
    let types = c.args.self.now.types in
    subst HaveOwnNames (sym (types_left c.args.name.now types.entries _ c.remove.ensures.entries c.remove.ensures.updates.1))
    (own_without name_of c.args.name.now (types_in types) c.args.self.now.own_types)
