-- The next line of a text, below the lines above.
use Rattle.std.specs.Prelude.{◌≡◌, ℕ, List, [], ◌++◌, Option, option_map, option_and_then}
use Rattle.spoc_base.specs.declared.dialect.Dialect.{Dialect}
use Rattle.device_reading.specs.Facts.{PortAt, Fact}
use Rattle.device_reading.specs.Grammar.{AreFacts}
use Rattle.device_reading.specs.Reading.{text_of}
use Rattle.device_lines.specs.Lines.{said_by}
use Rattle.device_lines.specs.Numbers.{cut_at}
use Rattle.acl_read.specs.Completed.{completed}

-- what a line says below these lines, and nothing where it may not stand there
abbrev pub fact_in : Dialect → List PortAt → List Fact → List ℕ → Option Fact
fact_in dialect ports above line = option_and_then (completed dialect ports above) (said_by dialect line)

-- the first line and what stands behind its line feed
abbrev pub first_line : List ℕ → Option (List ℕ × List ℕ)
first_line text = cut_at 10 text

abbrev pub next_fact : Dialect → List PortAt → List Fact → List ℕ → Option (Fact × List ℕ)
next_fact dialect ports above text = option_and_then (λ cut. option_map (λ f. (f, cut.1)) (fact_in dialect ports above cut.0)) (first_line text)

-- these lines were read, and this is left
pub record IsScanned (dialect : Dialect) (ports : List PortAt) (text : List ℕ) (facts : List Fact) (rest : List ℕ) : Type 0 where
  pub spelled : text ≡ text_of dialect facts ++ rest
  pub each : AreFacts dialect ports [] facts
