-- The lines of faults, by the sources.
use Rattle.std.specs.Prelude.{ℕ, nat_le, ◌&&◌, List, [], ◌∷◌, ◌++◌, if◌then◌else◌, length, flat_map, codes, slice_range, slice_index_or}
use Rattle.std.specs.Fmt.{decimal}
use Rattle.spoc_base.specs.declared.place.Source.{Source}
use Rattle.spoc_base.specs.declared.place.Span.{Span}
use Rattle.spoc_base.specs.declared.place.Kind.{Kind}
use Rattle.spoc_base.specs.declared.place.Kind.TheVariants as kind
use Rattle.spoc_base.specs.declared.place.Named.{Named}
use Rattle.spoc_base.specs.declared.place.Named.TheVariants as named
use Rattle.spoc_base.specs.declared.fault.Fault.{Fault}
use Rattle.spoc_base.specs.declared.fault.Fault.TheVariants as fault
use Rattle.spoc_base.specs.declared.fault.LimitWord.{LimitWord}
use Rattle.spoc_base.specs.declared.fault.LimitWord.TheVariants as limit
use Rattle.spoc_base.specs.declared.fault.HopAt.{HopAt}
use Rattle.spoc_base.specs.declared.fault.HopAt.TheVariants as hop

-- paths and texts
abbrev pub Files : Type 0
Files = List (List ℕ × List ℕ)

abbrev pub pair_of : Source → List ℕ × List ℕ
pair_of s = (s.path, s.text)

-- the k-th source, or one without path and bytes where there is none
abbrev pub source_at : Files → ℕ → List ℕ × List ℕ
source_at sources k = slice_index_or sources k ([], [])

-- the part of a text from one byte to before another, and nothing where the text ends before
abbrev pub part_of : List ℕ → ℕ → ℕ → List ℕ
part_of text start end = if nat_le start end && nat_le end (length text) then slice_range text start end else []

-- the bytes of a span
abbrev pub text_at : Files → Span → List ℕ
text_at sources span = part_of (source_at sources span.file).1 span.start span.end

-- a value of a line, with the blank before it
abbrev pub value_text : List ℕ → List ℕ
value_text text = codes " " ++ text

-- the word that stands before a name of a kind
abbrev pub kind_word : Kind → List ℕ
kind_word kind.Network = codes "network"
kind_word kind.Host = codes "host"
kind_word kind.Router = codes "router"
kind_word kind.Group = codes "group"
kind_word kind.Area = codes "area"
kind_word kind.Aggregate = codes "any"
kind_word kind.Protocol = codes "protocol"
kind_word kind.ProtocolGroup = codes "protocolgroup"
kind_word kind.Restriction = codes "pathrestriction"
kind_word kind.Service = codes "service"
kind_word kind.Tag = codes "nat"
kind_word kind.Zone = codes "zone"

-- the word that stands before the name of a thing
abbrev pub named_word : Named → List ℕ
named_word (named.Plain kind name) = kind_word kind
named_word (named.Iface router net) = codes "interface"

-- a thing's name alone, which is R.N of the interface of the router R at the network N
abbrev pub bare_name : Files → Named → List ℕ
bare_name sources (named.Plain kind name) = text_at sources name
bare_name sources (named.Iface router net) = text_at sources router ++ codes "." ++ text_at sources net

-- a thing under a word, as in network:n1
abbrev pub name_under : List ℕ → Files → Named → List ℕ
name_under word sources name = value_text (word ++ codes ":" ++ bare_name sources name)

-- a thing by its own word
abbrev pub name_text : Files → Named → List ℕ
name_text sources name = name_under (named_word name) sources name

abbrev pub names_text : Files → List Named → List ℕ
names_text sources names = flat_map (name_text sources) names

-- a hop: the next interface, or the one that leads straight into the network
abbrev pub hop_text : Files → HopAt → List ℕ
hop_text sources (hop.Next iface) = name_text sources iface
hop_text sources (hop.Direct iface) = name_under (codes "direct") sources iface

-- what a limit holds for
abbrev pub limit_word : LimitWord → List ℕ
limit_word limit.Networks = codes "networks"
limit_word limit.Routers = codes "routers"
limit_word limit.Interfaces = codes "interfaces"
limit_word limit.Hosts = codes "hosts"
limit_word limit.Services = codes "services"
limit_word limit.Names = codes "names"
limit_word limit.Nesting = codes "nesting"

-- a place in the sources: the path of the file and the offset
abbrev pub place_text : Files → ℕ → ℕ → List ℕ
place_text sources file offset = value_text (source_at sources file).0 ++ value_text (decimal offset)

-- the words that name the fault
abbrev pub fault_word : Fault → List ℕ
fault_word (fault.Lex file offset) = codes "Lex"
fault_word (fault.LeftOut file offset word) = codes "LeftOut"
fault_word (fault.Deep file offset) = codes "Deep"
fault_word (fault.Syntax file offset) = codes "Syntax"
fault_word (fault.Twice name) = codes "Twice"
fault_word (fault.Unknown name) = codes "Unknown"
fault_word (fault.Circle name) = codes "Circle"
fault_word (fault.Shape k name) = codes "Shape"
fault_word (fault.Limit what) = codes "Limit"
fault_word (fault.AreaSplit area border) = codes "AreaSplit"
fault_word (fault.NatConflict tag zone) = codes "NatConflict"
fault_word (fault.NatTwice net zone first second) = codes "NatTwice"
fault_word (fault.NatInside net tag) = codes "NatInside"
fault_word fault.LimitViews = codes "Limit views"
fault_word (fault.SamePrefix first second at) = codes "SamePrefix"
fault_word (fault.HostShadowed name net at) = codes "HostShadowed"
fault_word (fault.ManagedEnd service iface) = codes "ManagedEnd"
fault_word fault.LimitPermits = codes "Limit permits"
fault_word (fault.NoPath src dst) = codes "NoPath"
fault_word (fault.HiddenEnd src dst net zone) = codes "HiddenEnd"
fault_word fault.LimitLines = codes "Limit lines"
fault_word fault.LimitRoutes = codes "Limit routes"
fault_word (fault.NoHopAddress router net iface) = codes "NoHopAddress"
fault_word (fault.AmbiguousHop router net first second) = codes "AmbiguousHop"

-- what is told before things are named: a place, a rule or a word
abbrev pub detail_text : Files → Fault → List ℕ
detail_text sources (fault.Lex file offset) = place_text sources file offset
detail_text sources (fault.LeftOut file offset word) = place_text sources file offset ++ value_text (text_at sources word)
detail_text sources (fault.Deep file offset) = place_text sources file offset
detail_text sources (fault.Syntax file offset) = place_text sources file offset
detail_text sources (fault.Shape k name) = value_text (codes "S" ++ decimal k)
detail_text sources (fault.Limit what) = value_text (limit_word what)
detail_text sources other = []

-- the things that are named, in their order
abbrev pub things_text : Files → Fault → List ℕ
things_text sources (fault.Twice name) = names_text sources (name ∷ [])
things_text sources (fault.Unknown name) = names_text sources (name ∷ [])
things_text sources (fault.Circle name) = names_text sources (name ∷ [])
things_text sources (fault.Shape k name) = names_text sources (name ∷ [])
things_text sources (fault.AreaSplit area border) = names_text sources (area ∷ border ∷ [])
things_text sources (fault.NatConflict tag zone) = names_text sources (tag ∷ zone ∷ [])
things_text sources (fault.NatTwice net zone first second) = names_text sources (net ∷ zone ∷ first ∷ second ∷ [])
things_text sources (fault.NatInside net tag) = names_text sources (net ∷ tag ∷ [])
things_text sources (fault.SamePrefix first second at) = names_text sources (first ∷ second ∷ at ∷ [])
things_text sources (fault.HostShadowed name net at) = names_text sources (name ∷ net ∷ at ∷ [])
things_text sources (fault.ManagedEnd service iface) = names_text sources (service ∷ iface ∷ [])
things_text sources (fault.NoPath src dst) = names_text sources (src ∷ dst ∷ [])
things_text sources (fault.HiddenEnd src dst net zone) = names_text sources (src ∷ dst ∷ net ∷ zone ∷ [])
things_text sources (fault.NoHopAddress router net iface) = names_text sources (router ∷ net ∷ iface ∷ [])
things_text sources (fault.AmbiguousHop router net first second) = names_text sources (router ∷ net ∷ []) ++ hop_text sources first ++ hop_text sources second
things_text sources other = []

-- the line of a policy that is refused
abbrev pub fault_line : Files → Fault → List ℕ
fault_line sources fault = codes "fault " ++ fault_word fault ++ detail_text sources fault ++ things_text sources fault ++ codes "\n"
