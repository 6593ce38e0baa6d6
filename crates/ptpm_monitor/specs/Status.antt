-- Which status says that nothing is wrong.
use Rattle.std.specs.Prelude.{◌≡◌, ℕ, Bool, true, false, ◌&&◌, ◌==◌}
use Rattle.std.specs.List.{list_all}
use Rattle.ptpm_monitor.specs.declared.left_out.LeftOut.{LeftOut}
use Rattle.ptpm_monitor.specs.declared.look.Look.{Look}
use Rattle.ptpm_site_report.specs.declared.reporting.Came.{Came}
use Rattle.ptpm_site_report.specs.declared.reporting.Form.{Form}
use Rattle.ptpm_site_report.specs.declared.reporting.Form.TheVariants as forms
use Rattle.ptpm_site_report.specs.Reporting.{plugin_status, status, status_of_numbers}

abbrev pub status_in : Form → Came → ℕ
status_in forms.Plugin came = plugin_status came.standing
status_in forms.OpenMetrics came = status_of_numbers came.conclusion
status_in _ came = status came.conclusion

-- numbers say themselves what is wrong
abbrev pub tells_findings : Form → Bool
tells_findings forms.OpenMetrics = false
tells_findings _ = true

abbrev pub is_nothing : LeftOut → Bool
is_nothing l = l.answers == 0 && (l.announces == 0 && (l.syncs == 0 && (l.follow_ups == 0
    && (l.delay_reqs == 0 && (l.gone == 0 && (l.clocks == 0 && l.ports == 0))))))

-- a clock answered at each way, and nothing was left out
abbrev pub is_known : Look → Bool
is_known look = list_all (λ way. way.is_answered) look.basis.own.ways.items && is_nothing look.left_out
