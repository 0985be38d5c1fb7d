pub mod HourReport
