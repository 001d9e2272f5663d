-- What the contracts of `Links` say of its fields, in the words of Chains and Groups.
use Rattle.std.specs.Prelude.{List, ℕ}
use Rattle.plan_links.specs.declared.Links.{Links}
use Rattle.plan_links.specs.Chains.{links_of, rows_of}
use Rattle.plan_links.specs.Groups.{fans_in, groups_in}

-- the links of one lane and role, and their rows
abbrev pub kept : Links → ℕ → List ℕ
kept l q = links_of l.file.now l.index.now l.starts.now q

abbrev pub kept_rows : Links → ℕ → List ℕ
kept_rows l q = rows_of l.file.now l.index.now l.starts.now q

-- the rows of these lanes' links, and their fans
abbrev pub grouped : Links → List ℕ → List ℕ
grouped l lanes = groups_in l.file.now l.index.now l.starts.now 0 lanes

abbrev pub fanned : Links → List ℕ → List ℕ → List ℕ
fanned l placed lanes = fans_in l.file.now l.index.now l.starts.now placed 0 lanes 0
