-- A saved run that is gone on from: why it has no text, and which text it has.
use Rattle.std.specs.Prelude.{◌≡◌, ℕ, List, IsSomeAnd, Option, Some, None, codes, if◌then◌else◌}
use Rattle.network_file.specs.Network.{Network}
use Rattle.network_file.specs.Reading.{network_of}
use Rattle.saved_run.specs.Content.{Content}
use Rattle.saved_run.specs.Loading.{IsCutSo, cutting_in, start_in}
use Rattle.saved_run.specs.Reading.{content_of}
use Rattle.saved_run.specs.Startable.{can_start}
use Rattle.saved_run.specs.declared.fault.LoadFault.{LoadFault}
use Rattle.saved_run.specs.declared.fault.LoadFault.TheVariants as fault
use Rattle.delay_report.specs.FromStart.{report_from}
use Rattle.call_ending.specs.Why.{Why}
use Rattle.call_ending.specs.declared.status.Status.TheVariants as status
use Rattle.call_beginning.specs.NetworkInput.{network_refused, why_of_network}
use Rattle.call_beginning.specs.Task.{Task}

abbrev pub saved_refused : (line : List ℕ) → Why
saved_refused line = record { status = status.Saved; line = line }

-- the status and the line of a saved text's fault: that of its network has those of a network
abbrev pub why_of_fault : LoadFault → Why
why_of_fault fault.Spelling = saved_refused (codes "ctm: saved: code 1 Spelling\n")
why_of_fault (fault.Network of_network) = network_refused of_network
why_of_fault fault.Cutting = saved_refused (codes "ctm: saved: code 3 Cutting\n")
why_of_fault fault.Start = saved_refused (codes "ctm: saved: code 4 Start\n")

-- the first fault of a content, by the cutting of its network that its row lines give, or none
abbrev pub why_by_cutting : Content → Network → Option (List ℕ) → Option Why
why_by_cutting content net None = Some (why_of_fault fault.Cutting)
why_by_cutting content net (Some cut) = if can_start net cut (start_in content) then None else Some (why_of_fault fault.Start)

-- the first fault of a text, by the content that it has, or none
abbrev pub why_by_content : Option Content → Option Why
why_by_content None = Some (why_of_fault fault.Spelling)
why_by_content (Some content) = why_of_network (network_of content.network) (λ net. why_by_cutting content net (cutting_in net content))

abbrev pub resume_refused : Task → Option Why
resume_refused task = why_by_content (content_of task.input)

-- the text of a content's run that went on to the last step
pub record IsGoneOn (content : Content) (whole : List ℕ) : Type 0 where
  pub net : Network
  pub cut : List ℕ
  pub cut_so : IsCutSo content net cut
  -- the report, with no recorded steps, of the rows to which the regions come from where they start
  pub text : whole ≡ report_from net cut (start_in content)

abbrev pub IsResumeText : Task → List ℕ → Type 0
IsResumeText task text = IsSomeAnd (content_of task.input) (λ content. IsGoneOn content text)
