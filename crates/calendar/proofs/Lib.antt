-- Laws of the definitions: one file for each subject. Card 4's own stand in `ChangeLaws`, `SeasonLaws` and `HourLaws`, those of the days' count in `Days`.
pub mod Tests
pub mod Weeks
pub mod Days
pub mod Sundays
pub mod Times
pub mod Changes
pub mod ChangeLaws
pub mod SeasonLaws
pub mod HourLaws
