-- A config that is printed and read back: one port, a list with a group, and a route.
use Rattle.std.proofs.Common.{refl, false, true, [], ◌∷◌, arith, codes, map}
use Rattle.spoc_base.specs.Address.{Cidr}
use Rattle.spoc_base.specs.Boxes.{TcpPorts, all_ports}
use Rattle.spoc_base.specs.declared.dialect.Dialect.TheVariants.{Asa}
use Rattle.policy_model.specs.Filters.{Line}
use Rattle.policy_model.specs.Passing.{Config}
use Rattle.acl_print.specs.DeviceText.{device_text}
use Rattle.device_reading.specs.Facts.{PortAt}
use Rattle.device_reading.specs.Grammar.{IsPrefix}
use Rattle.device_reading.specs.Reading.{Reads}
use Rattle.text_laws.specs.Printable.{name_of, IsPrintable}
use Rattle.text_laws.proofs.Laws.{print_reads}

abbrev near : Cidr
near = record { net = 167838208; len = 24 }

abbrev far : Cidr
far = record { net = 167968768; len = 16 }

abbrev host : Cidr
host = record { net = 167838213; len = 32 }

abbrev port : PortAt
port = record { number = 4; hardware = codes "E1"; connected = near }

abbrev line : Line
line = record { permit = true; src = near ∷ host ∷ []; dst = host ∷ []; box = TcpPorts all_ports (record { first = 80; last = 80 }) false }

abbrev config : Config
config = record { lists = (line ∷ []) ∷ []; routes = record { net = far; gateway = 167838217; out = 4 } ∷ [] }

near_good : IsPrefix near
near_good = record { good = record { short = omega arith; aligned = refl }; low = omega arith }

far_good : IsPrefix far
far_good = record { good = record { short = omega arith; aligned = refl }; low = omega arith }

host_good : IsPrefix host
host_good = record { good = record { short = omega arith; aligned = refl }; low = omega arith }

printable : IsPrintable Asa (codes "r1") (port ∷ []) config
printable = record {
  name_good = (refl, (refl, tt));
  named = (record { some = λ e. cc; bytes = (refl, (refl, tt)) }, tt);
  apart = (tt, tt);
  one_each = refl;
  lists = (
    (
      λ e. cc,
      (
        record {
          src = (near_good, (host_good, tt));
          dst = (host_good, tt);
          box = ((omega arith, omega arith), (omega arith, omega arith), refl);
        },
        tt,
      ),
    ),
    tt,
  );
  routes = (record { net_good = far_good; gateway_good = omega arith; port = port; port_good = refl; out = refl }, tt);
  few_groups = omega arith;
}

pub example_reads : Reads Asa (port ∷ []) (device_text Asa (codes "r1") (map name_of (port ∷ [])) config) config
example_reads = print_reads Asa (codes "r1") (port ∷ []) config printable
