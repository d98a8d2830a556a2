-- A record of a table.
use Rattle.mrp_survey.specs.declared.finding.Place.{Place}
use Rattle.mrp_survey.specs.declared.form.Form.{Form}
use Rattle.mrp_survey.specs.Forms.{Row}

pub record Entry : Type 0 where
  pub form : Form
  pub place : Place
  pub row : Row
