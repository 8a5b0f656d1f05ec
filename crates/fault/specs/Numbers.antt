-- The six numbers of each fault.
use Rattle.std.specs.Prelude.{ℕ, Some, None, Option}
use Rattle.fault.specs.declared.Fault.{Fault}
use Rattle.fault.specs.declared.Fault.TheVariants as fault
use Rattle.fault.specs.declared.Numbers.{Numbers}

-- number, layer, section, subsection, place, detail
abbrev pub six : ℕ → ℕ → ℕ → ℕ → ℕ → ℕ → Numbers
six n l s u p d = record { number = n; layer = l; section = s; subsection = u; place = p; detail = d }

-- a section or a subsection, where there is one
abbrev pub named : Option ℕ → ℕ
named None = 255
named (Some n) = n

-- 255 stands for no section and for no subsection, 254 for a subsection whose name is unknown
abbrev pub numbers_of : Fault → Numbers
numbers_of (fault.NoAddress address) = six 1 1 255 255 0 address
numbers_of (fault.NoInput leaf) = six 2 1 leaf 255 0 0
numbers_of (fault.TickCount ticks) = six 3 1 255 255 0 ticks
numbers_of (fault.NoEdition edition) = six 4 1 255 255 0 edition
numbers_of (fault.FieldNotCarried leaf field) = six 5 4 leaf 255 0 field
numbers_of (fault.SubsectionNotCarried leaf subsection) = six 5 4 leaf subsection 0 0
numbers_of (fault.ShortBuffer needed) = six 6 1 255 255 0 needed
numbers_of (fault.TooManyLeaves leaves) = six 7 1 255 255 0 leaves
numbers_of (fault.EndOfStream section subsection place) = six 8 2 (named section) (named subsection) place 0
numbers_of fault.Header = six 9 2 255 255 0 0
numbers_of fault.Configuration = six 10 2 255 255 8 0
numbers_of (fault.SectionType section place found) = six 11 3 (named section) 255 place found
numbers_of (fault.Identity section place) = six 11 3 section 255 place 0
numbers_of (fault.Version section subsection place version) = six 12 3 section (named subsection) place version
numbers_of (fault.UnknownSubsection section place length) = six 13 3 section 254 place length
numbers_of (fault.SubsectionOrder section subsection place length) = six 13 3 section subsection place length
numbers_of (fault.Field section subsection place field) = six 14 4 section (named subsection) place field
numbers_of (fault.NotNeeded section subsection place) = six 15 4 section subsection place 0
numbers_of (fault.Tag section place found) = six 16 3 section 255 place found
numbers_of (fault.ClosingLeaf section place found) = six 16 3 section 255 place found
numbers_of (fault.TrailingBytes place) = six 17 2 255 255 place 0
numbers_of (fault.NotAdopted section place) = six 18 4 section 255 place 0
