-- Which configs are printed, so that the text reads as the config.
use Rattle.std.specs.Prelude.{◌≡◌, ◌≢◌, ℕ, ◌<◌, ◌^◌, ◌==◌, false, bytes_eq, List, [], ◌∷◌, length, Some}
use Rattle.std.specs.List.{AllByRecursion}
use Rattle.spoc_base.specs.Address.{Cidr}
use Rattle.spoc_base.specs.declared.dialect.Dialect.{Dialect}
use Rattle.spoc_base.specs.declared.dialect.Dialect.TheVariants.{Ios, Asa}
use Rattle.policy_model.specs.Filters.{Line}
use Rattle.policy_model.specs.Routes.{Route}
use Rattle.policy_model.specs.Passing.{Config}
use Rattle.acl_print.specs.Seen.{PortName}
use Rattle.acl_print.specs.Groups.{groups_of}
use Rattle.device_reading.specs.Facts.{PortAt}
use Rattle.device_reading.specs.Grammar.{Lacks, IsWord, IsPrefix, IsEntryBox, port_for}

abbrev pub name_of : PortAt → PortName
name_of p = record { number = p.number; hardware = p.hardware }

-- each hardware is a word
abbrev pub AreNamed : List PortAt → Type 0
AreNamed ports = AllByRecursion (λ (p : PortAt). IsWord p.hardware) ports

-- no two ports have one hardware or one number
abbrev pub AreApart : List PortAt → Type 0
AreApart [] = Unit {0}
AreApart (p ∷ ports) = AllByRecursion (λ (q : PortAt). (bytes_eq p.hardware q.hardware ≡ false) × ((p.number == q.number) ≡ false)) ports × AreApart ports

-- one prefix, or on ASA one or more
abbrev pub IsPrintedEnd : Dialect → List Cidr → Type 0
IsPrintedEnd dialect [] = ⊥
IsPrintedEnd Ios (p ∷ []) = IsPrefix p
IsPrintedEnd Ios (p ∷ q ∷ ps) = ⊥
IsPrintedEnd Asa (p ∷ ps) = AllByRecursion IsPrefix (p ∷ ps)

pub record IsPrintedLine (dialect : Dialect) (l : Line) : Type 0 where
  pub src : IsPrintedEnd dialect l.src
  pub dst : IsPrintedEnd dialect l.dst
  pub box : IsEntryBox dialect l.box

abbrev pub IsPrintedList : Dialect → List Line → Type 0
IsPrintedList Ios lines = AllByRecursion (IsPrintedLine Ios) lines
IsPrintedList Asa lines = (lines ≢ []) × AllByRecursion (IsPrintedLine Asa) lines

-- the gateway lies at the port by which the route goes out, by the longest prefix that holds it
pub record IsPrintedRoute (ports : List PortAt) (r : Route) : Type 0 where
  pub net_good : IsPrefix r.net
  pub gateway_good : r.gateway < 2 ^ 32
  pub port : PortAt
  pub port_good : port_for ports r.gateway ≡ Some port
  pub out : port.number ≡ r.out

pub record IsPrintable (dialect : Dialect) (name : List ℕ) (ports : List PortAt) (config : Config) : Type 0 where
  pub name_good : Lacks 10 name
  pub named : AreNamed ports
  pub apart : AreApart ports
  pub one_each : length config.lists ≡ length ports
  pub lists : AllByRecursion (IsPrintedList dialect) config.lists
  pub routes : AllByRecursion (IsPrintedRoute ports) config.routes
  pub few_groups : length (groups_of config.lists) < 2 ^ 64
